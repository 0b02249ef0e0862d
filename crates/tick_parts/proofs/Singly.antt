-- What a line of ticks reports is what its single ticks report, in order. Assumes nothing.
use Prim.Native.Nat.{ℕ, zero, suc, ◌+◌, ◌-◌, ◌%◌, ◌≤◌, ◌<◌, min}
use mathlib.Core.Path.{◌≡◌, refl, sym, ap, ◌∙◌}
use mathlib.Core.Bool.{Bool, true, false}
use mathlib.Core.List.{[], ◌∷◌, ◌++◌, append_assoc, append-nil}
use native.Mathlib.Nat.{zero-add, add-zero}
use native.Mathlib.Omega.{arith}
use lib.Dec.{eqb}
use borrow.Author.Tests.{le-ltb}
use Rattle.unit.proofs.Cases.{by_eqb}
use Rattle.numeral.specs.Digit.{glyph, digits}
use Rattle.numeral.specs.Place.{joined}
use Rattle.numeral.specs.Print.{width_from, decimal_width, decimal}
use Rattle.device.specs.declared.Model.{Model}
use Rattle.device.specs.declared.Reply.{Reply}
use Rattle.device.specs.declared.Report.{Report}
use Rattle.device.specs.declared.Schedule.{Schedule}
use Rattle.device.specs.declared.StretchReport.{StretchReport}
use Rattle.device.specs.declared.Answer.TheVariants.{Ticked, Stretched}
use Rattle.device.specs.Model.{is_sound}
use Rattle.device.specs.Call.{Call}
use Rattle.device.specs.Event.{begins, fails}
use Rattle.device.specs.Tick.{tick_model, report_of}
use Rattle.device.specs.Stretch.{model_ticked, last_tick, stretch_report}
use Rattle.device.specs.StretchSteps.{progress}
use Rattle.device.specs.Reply.{reply}
use Rattle.device.specs.History.{Kind}
use Rattle.device.proofs.Replies.{reply-tick, reply-stretch}
use Rattle.device.proofs.Sound.{bounds_of, sound-of, ticked-bounds, keeps-sound}
use Rattle.device.proofs.Stretch.{ticked-later, start-named, failure-named}
use Rattle.device.proofs.StretchMeaning.{named-happens}
use Rattle.numeral.specs.Ascii.{ascii}
use Rattle.wording.specs.Wording.{Texts, line_feed, numbered, reported_where, kind_reports, quiet, single, report_at, tick_reports, stretched, stretch}
use Rattle.wording.specs.Wording.{ticked as ticked_alone}
use Rattle.item_calls.specs.Lines.{Ticks, stretch_reports, onward, ticked}
use Rattle.item_calls.proofs.Meaning.{ticks-end}
use Rattle.tick_parts.specs.Singly.{one_reported, singly}
use Rattle.tick_parts.proofs.Named.{each_told, Within, named-each, stretch-told}

-- ---- one tick of a stretch

-- A tick's answer against what a stretch names: the same texts.
same-reports : (f t : Report) (flight temperature : StretchReport) (i j done : ℕ) → f.failed ≡ eqb flight.failed.0 j
    → f.started ≡ eqb flight.started.0 j → t.failed ≡ eqb temperature.failed.0 j → t.started ≡ eqb temperature.started.0 j
    → (done + j) % 4294967296 ≡ i → one_reported (Ticked f t) i ≡ tick_reports flight temperature j done
unfolding one_reported tick_reports
same-reports f t flight temperature i j done a b c d number = rw (a, b, c, d, number)

-- A stretch names none but its own ticks.
last_within : (test : Schedule → Bool) (k : Schedule) (n : ℕ) → last_tick test k n ≤ n
last_within test k n = go (last_tick test k n) refl
  where
    go : (i : ℕ) → last_tick test k n ≡ i → i ≤ n
    go zero e = omega arith
    go (suc i) e = omega (arith, (named-happens test k n i (omega arith)).0)

module _ (m : Model) (sound : is_sound m ≡ true) where
  sound-later : (j : ℕ) → is_sound (model_ticked j m) ≡ true
  sound-later j = sound-of (model_ticked j m) (ticked-bounds j m (bounds_of m sound))

  -- what a stretch of n ticks names
  abbrev flights : ℕ → StretchReport
  flights n = stretch_report m.flight.schedule n

  abbrev temperatures : ℕ → StretchReport
  temperatures n = stretch_report m.temperature.schedule n

  -- The tick behind the j-th reports what the stretch tells of it.
  module _ (n j : ℕ) (l : j < n) (short : n ≤ 16384) where
    abbrev there : Model
    there = model_ticked j m

    flight-failed : fails there.flight.schedule ≡ eqb (flights n).failed.0 (j + 1)
    unfolding stretch_report
    flight-failed = sym (failure-named m sound Kind.differences n j l short)

    flight-started : begins there.flight.schedule ≡ eqb (flights n).started.0 (j + 1)
    unfolding stretch_report
    flight-started = sym (start-named m sound Kind.differences n j l short)

    temperature-failed : fails there.temperature.schedule ≡ eqb (temperatures n).failed.0 (j + 1)
    unfolding stretch_report
    temperature-failed = sym (failure-named m sound Kind.temperatures n j l short)

    temperature-started : begins there.temperature.schedule ≡ eqb (temperatures n).started.0 (j + 1)
    unfolding stretch_report
    temperature-started = sym (start-named m sound Kind.temperatures n j l short)

    tick-told : (before : ℕ) → before + n < 4294967296
        → one_reported (reply there Call.tick).answer (before + j + 1) ≡ tick_reports (flights n) (temperatures n) (j + 1) before
    unfolding report_of
    tick-told before few =
        let number : (before + (j + 1)) % 4294967296 ≡ before + j + 1 = omega arith in
        rw (reply-tick there (sound-later j))
        (same-reports (report_of there.flight.schedule) (report_of there.temperature.schedule) (flights n) (temperatures n)
        (before + j + 1) (j + 1) before flight-failed flight-started temperature-failed temperature-started number)

  -- ---- one stretch

  next-model : (j : ℕ) → (reply (model_ticked j m) Call.tick).model ≡ model_ticked (j + 1) m
  unfolding model_ticked
  next-model j = let next : j + 1 ≡ suc j = omega arith in rw (next, reply-tick (model_ticked j m) (sound-later j))

  -- k of its ticks, one by one, behind the j-th
  each-singly : (k j n before : ℕ) → j + k ≡ n → n ≤ 16384 → before + n < 4294967296
      → (singly k (before + j) (model_ticked j m)).texts ≡ each_told (flights n) (temperatures n) before j k
  unfolding singly each_told
  each-singly zero j n before all short few = refl
  each-singly (suc k) j n before all short few =
      let on : before + (j + 1) ≡ before + j + 1 = omega arith in
      rw (tick-told n j (omega arith) short before few, next-model j)
      (ap (λ (later : Texts). tick_reports (flights n) (temperatures n) (j + 1) before ++ later)
      (rw on at (each-singly k (j + 1) n before (omega arith) short few)))

  names-within : (n : ℕ) → Within (flights n) (temperatures n) n
  unfolding stretch_report
  names-within n = record {
    failed-flight = last_within fails m.flight.schedule n;
    started-flight = last_within begins m.flight.schedule n;
    failed-temperature = last_within fails m.temperature.schedule n;
    started-temperature = last_within begins m.temperature.schedule n;
  }

  stretch-reply : (n : ℕ) → n ≤ 16384
      → reply m (Call.stretch n) ≡ record { answer = Stretched (flights n) (temperatures n); model = model_ticked n m }
  unfolding progress
  stretch-reply n short = rw (reply-stretch m sound n, le-ltb 16384 n short)

  all_told : (n before : ℕ) → n ≤ 16384 → before + n < 4294967296
      → each_told (flights n) (temperatures n) before 0 n ≡ (singly n before m).texts
  unfolding model_ticked
  all_told n before short few =
      let none : before + 0 ≡ before = add-zero before in sym (rw none at (each-singly n 0 n before (zero-add n) short few))

  -- A stretch reports what its single ticks report, in order.
  pub stretch-singly : (n before : ℕ) → n ≤ 16384 → before + n < 4294967296
      → stretch_reports (reply m (Call.stretch n)).answer before ≡ (singly n before m).texts
  unfolding stretch_reports
  stretch-singly n before short few =
      rw (stretch-reply n short)
      (stretch-told (flights n) (temperatures n) n (names-within n) (omega arith) before ∙ all_told n before short few)

  -- "`stretch N`, then ` WHAT@I` as for `tick`"
  pub stretch-line-singly : (n : ℕ) → n ≤ 16384
      → stretch (reply m (Call.stretch n)).answer n
      ≡ ascii "stretch" ∷ ((ascii " " ∷ decimal n ∷ (singly n 0 m).texts) ++ (line_feed ∷ []))
  unfolding stretch stretched
  stretch-line-singly n short =
      rw (stretch-reply n short, named-each (flights n) (temperatures n) n (names-within n) (omega arith) 0, all_told n 0 short (omega arith))

-- ---- one tick alone

single-reports : (a b c d : Bool)
    → joined (single (Ticked record { started = a; failed = b } record { started = c; failed = d }))
    ≡ joined
    (numbered (ascii "tick ") 1
    ++ (one_reported (Ticked record { started = a; failed = b } record { started = c; failed = d }) 1 ++ (line_feed ∷ [])))
unfolding single quiet ticked_alone kind_reports reported_where one_reported report_at numbered decimal decimal_width width_from digits glyph joined ascii
single-reports true true true true = refl
single-reports true true true false = refl
single-reports true true false true = refl
single-reports true true false false = refl
single-reports true false true true = refl
single-reports true false true false = refl
single-reports true false false true = refl
single-reports true false false false = refl
single-reports false true true true = refl
single-reports false true true false = refl
single-reports false true false true = refl
single-reports false true false false = refl
single-reports false false true true = refl
single-reports false false true false = refl
single-reports false false false true = refl
single-reports false false false false = refl

-- A line of one tick tells what every line of ticks tells: "`tick N`, then ` WHAT@I`".
pub single-line-singly : (m : Model) → is_sound m ≡ true
    → joined (single (reply m Call.tick).answer) ≡ joined (numbered (ascii "tick ") 1 ++ ((singly 1 0 m).texts ++ (line_feed ∷ [])))
unfolding singly report_of
single-line-singly m sound =
    let f : Schedule = m.flight.schedule in
    let t : Schedule = m.temperature.schedule in
    rw (reply-tick m sound, append-nil) (single-reports (begins f) (fails f) (begins t) (fails t))

-- ---- all of them

-- Single ticks end where the model's ticks end,
pub singly-end : (n before : ℕ) (m : Model) → is_sound m ≡ true → (singly n before m).model ≡ model_ticked n m
unfolding singly model_ticked
singly-end zero before m sound = refl
singly-end (suc n) before m sound =
    let one : (reply m Call.tick).model ≡ tick_model m = ap (λ (r : Reply). r.model) (reply-tick m sound) in
    let next : 1 + n ≡ suc n = omega arith in
    singly-end n (before + 1) (reply m Call.tick).model (keeps-sound m Call.tick sound)
    ∙ (ap (model_ticked n) one ∙ (ticked-later n 1 m ∙ ap (λ (i : ℕ). model_ticked i m) next))

-- and some of them, then others, are all of them.
singly-cut : (a b before : ℕ) (m : Model)
    → (singly (a + b) before m).texts ≡ (singly a before m).texts ++ (singly b (before + a) (singly a before m).model).texts
unfolding singly
singly-cut zero b before m = rw (zero-add b, add-zero before)
singly-cut (suc a) b before m =
    let r : Reply = reply m Call.tick in
    let more : suc a + b ≡ suc (a + b) = omega arith in
    let on : before + 1 + a ≡ before + suc a = omega arith in
    let here : Texts = one_reported r.answer (before + 1) in
    let some : Texts = (singly a (before + 1) r.model).texts in
    let others : Texts = (singly b (before + suc a) (singly a (before + 1) r.model).model).texts in
    rw more
    (ap (λ (later : Texts). here ++ later) (rw on at (singly-cut a b (before + 1) r.model))
    ∙ sym (append_assoc here some others))

turns-singly : (turns n before : ℕ) (m : Model) → n ≤ turns → is_sound m ≡ true → before + n < 4294967296
    → (ticked turns n before m).texts ≡ (singly n before m).texts
unfolding ticked onward singly
turns-singly zero n before m enough sound few = let none : n ≡ 0 = omega arith in rw none
turns-singly (suc turns) n before m enough sound few =
    let span : ℕ = min n 16384 in
    let r : Reply = reply m (Call.stretch span) in
    by_eqb n 0 (λ none e. rw (e, none))
    (λ some e.
    let whole : span + (n - span) ≡ n = omega arith in
    let first : stretch_reports r.answer before ≡ (singly span before m).texts
    = stretch-singly m sound span before (omega arith) (omega arith) in
    let there : (singly span before m).model ≡ r.model
    = singly-end span before m sound ∙ sym (ap (λ (s : Reply). s.model) (stretch-reply m sound span (omega arith))) in
    let later : (ticked turns (n - span) (before + span) r.model).texts ≡ (singly (n - span) (before + span) r.model).texts
    = turns-singly turns (n - span) (before + span) r.model (omega arith) (keeps-sound m (Call.stretch span) sound) (omega arith) in
    let cut : (singly n before m).texts ≡ (singly span before m).texts ++ (singly (n - span) (before + span) r.model).texts
    = rw (whole, there) at (singly-cut span (n - span) before m) in
    rw (e, first, later) (sym cut))

same-ticks : (s t : Ticks) → s.model ≡ t.model → s.texts ≡ t.texts → s ≡ t
same-ticks s t a b =
    ap (λ (x : Model). record { model = x; texts = s.texts }) a ∙ ap (λ (u : Texts). record { model = t.model; texts = u }) b

-- Of a sound model, n ticks of a line leave the model that n single ticks leave, and report what these report, in order: "` WHAT@I` for
-- each thing that the I-th of these ticks reported". Their numbers are below 2³², as those that a line may have.
pub ticks-singly : (n before : ℕ) (m : Model) → is_sound m ≡ true → before + n < 4294967296 → ticked n n before m ≡ singly n before m
ticks-singly n before m sound few =
    same-ticks (ticked n n before m) (singly n before m) (ticks-end n before m sound ∙ sym (singly-end n before m sound))
    (turns-singly n n before m (omega arith) sound few)
