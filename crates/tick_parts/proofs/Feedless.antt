-- What a line of ticks is answered has no line feed before its end. Assumes nothing.
use Prim.Native.Nat.{ℕ, zero, suc, ◌+◌, ◌-◌, ◌/◌, ◌%◌, min}
use mathlib.Core.Path.{◌≡◌, refl}
use mathlib.Core.Bool.{Bool, true, false, cond, true≢false}
use mathlib.Core.List.{List, [], ◌∷◌, ◌++◌}
use native.Mathlib.Omega.{arith}
use lib.Dec.{eqb}
use lib.ListN.{take}
use borrow.Author.Tests.{ne_eqb}
use Rattle.unit.proofs.Cases.{by-ltb, by_eqb}
use Rattle.numeral.specs.Digit.{glyph, digits}
use Rattle.numeral.specs.Place.{joined}
use Rattle.numeral.specs.Print.{decimal_width, decimal}
use Rattle.line_buffer.specs.Lines.{has_line}
use Rattle.line_buffer.proofs.Pieces.{none_both}
use Rattle.device.specs.declared.Model.{Model}
use Rattle.device.specs.declared.Reply.{Reply}
use Rattle.device.specs.declared.StretchReport.{StretchReport}
use Rattle.device.specs.declared.Answer.{Answer}
use Rattle.device.specs.declared.Answer.TheVariants.{Refused, Accepted, Ticked, Stretched, Good, Failed}
use Rattle.device.specs.Call.{Call}
use Rattle.device.specs.Reply.{reply}
use Rattle.numeral.specs.Ascii.{ascii}
use Rattle.wording.specs.Wording.{Texts, numbered, report_at, tick_reports, next_named, no_tick, later_named, named}
use Rattle.item_calls.specs.Lines.{stretch_reports, onward, ticked}
use Rattle.answer_text.proofs.Page.{joined-append}

-- ---- bytes without a line feed

none-empty : has_line [] ≡ false
unfolding has_line
none-empty = refl

-- ---- texts without one

-- No text of these has a line feed.
abbrev pub Feedless : Texts → Type 0
Feedless texts = has_line (joined texts) ≡ false

pub feedless-then : (ts us : Texts) → Feedless ts → Feedless us → Feedless (ts ++ us)
feedless-then ts us a b = rw (joined-append ts us) (none_both (joined ts) (joined us) a b)

none_told : Feedless []
unfolding joined
none_told = none-empty

pub feedless-first : (t : List ℕ) (ts : Texts) → has_line t ≡ false → Feedless ts → Feedless (t ∷ ts)
unfolding joined
feedless-first t ts a b = none_both t (joined ts) a b

feedless-where : (b : Bool) (ts us : Texts) → Feedless ts → Feedless us → Feedless (cond b ts us)
feedless-where true ts us h l = h
feedless-where false ts us h l = l

-- ---- numbers

no-feed : (d : ℕ) → eqb (glyph d) 10 ≡ false
unfolding glyph
no-feed d = by-ltb d 10 (λ h e. rw e (ne_eqb (48 + d) 10 (λ same. omega arith))) (λ h e. rw e (ne_eqb (55 + d) 10 (λ same. omega arith)))

one-digit : (d : ℕ) → has_line (glyph d ∷ []) ≡ false
unfolding has_line
one-digit d = rw (no-feed d)

digits-feedless : (b k v : ℕ) → has_line (digits b k v) ≡ false
unfolding digits
digits-feedless b zero v = none-empty
digits-feedless b (suc k) v = none_both (digits b k (v / b)) (glyph (v % b) ∷ []) (digits-feedless b k (v / b)) (one-digit (v % b))

pub decimal-feedless : (v : ℕ) → has_line (decimal v) ≡ false
unfolding decimal
decimal-feedless v = digits-feedless 10 (decimal_width v) v

-- A word and a number
pub numbered-feedless : (word : List ℕ) (n : ℕ) → has_line word ≡ false → Feedless (numbered word n)
unfolding numbered
numbered-feedless word n none = feedless-first word (decimal n ∷ []) none (feedless-first (decimal n) [] (decimal-feedless n) none_told)

pub tick-feedless : (n : ℕ) → Feedless (numbered (ascii "tick ") n)
unfolding ascii has_line
tick-feedless n = numbered-feedless (ascii "tick ") n refl

pub at-feedless : (n : ℕ) → Feedless (numbered (ascii "at ") n)
unfolding ascii has_line
at-feedless n = numbered-feedless (ascii "at ") n refl

-- ---- what ticks report

report-feedless : (holds : Bool) (what : List ℕ) (i : ℕ) → has_line what ≡ false → Feedless (report_at holds what i)
unfolding report_at
report-feedless holds what i none =
    let told : Feedless (what ∷ decimal i ∷ [])
    = feedless-first what (decimal i ∷ []) none (feedless-first (decimal i) [] (decimal-feedless i) none_told) in
    feedless-where holds (what ∷ decimal i ∷ []) [] told none_told

module _ (flight temperature : StretchReport) where
  reports-feedless : (i done : ℕ) → Feedless (tick_reports flight temperature i done)
  unfolding tick_reports ascii has_line
  reports-feedless i done =
      let n : ℕ = (done + i) % 4294967296 in
      let a : Texts = report_at (eqb flight.failed.0 i) (ascii " failed-flight@") n in
      let b : Texts = report_at (eqb flight.started.0 i) (ascii " started-flight@") n in
      let c : Texts = report_at (eqb temperature.failed.0 i) (ascii " failed-temperature@") n in
      let d : Texts = report_at (eqb temperature.started.0 i) (ascii " started-temperature@") n in
      feedless-then a (b ++ (c ++ d)) (report-feedless (eqb flight.failed.0 i) (ascii " failed-flight@") n refl)
      (feedless-then b (c ++ d) (report-feedless (eqb flight.started.0 i) (ascii " started-flight@") n refl)
      (feedless-then c d (report-feedless (eqb temperature.failed.0 i) (ascii " failed-temperature@") n refl)
      (report-feedless (eqb temperature.started.0 i) (ascii " started-temperature@") n refl)))

  named-feedless : (done : ℕ) → Feedless (named flight temperature done)
  unfolding named later_named
  named-feedless done =
      let first : ℕ = next_named flight temperature 0 in
      let second : ℕ = next_named flight temperature first in
      let third : ℕ = next_named flight temperature second in
      let last : ℕ = next_named flight temperature third in
      let a : Texts = tick_reports flight temperature first done in
      let b : Texts = tick_reports flight temperature second done in
      let c : Texts = tick_reports flight temperature third done in
      let d : Texts = tick_reports flight temperature last done in
      feedless-then a (b ++ (c ++ d)) (reports-feedless first done)
      (feedless-then b (c ++ d) (reports-feedless second done) (feedless-then c d (reports-feedless third done) (reports-feedless last done)))

stretch-feedless : (answer : Answer) (before : ℕ) → Feedless (stretch_reports answer before)
unfolding stretch_reports
stretch-feedless (Refused r) before = none_told
stretch-feedless (Accepted flight temperature) before = none_told
stretch-feedless (Ticked flight temperature) before = none_told
stretch-feedless (Stretched flight temperature) before =
    feedless-where (eqb (next_named flight temperature 0) no_tick) [] (named flight temperature before) none_told
    (named-feedless flight temperature before)
stretch-feedless Good before = none_told
stretch-feedless Failed before = none_told

-- No text of ticks has one.
pub ticked-feedless : (turns n before : ℕ) (m : Model) → Feedless (ticked turns n before m).texts
unfolding ticked onward
ticked-feedless zero n before m = none_told
ticked-feedless (suc turns) n before m =
    let span : ℕ = min n 16384 in
    let r : Reply = reply m (Call.stretch span) in
    let here : Texts = stretch_reports r.answer before in
    let rest : Texts = (ticked turns (n - span) (before + span) r.model).texts in
    let later : Feedless rest = ticked-feedless turns (n - span) (before + span) r.model in
    by_eqb n 0 (λ h e. rw e none_told) (λ h e. rw e (feedless-then here rest (stretch-feedless r.answer before) later))
