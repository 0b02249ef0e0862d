-- The own answer of every line that may carry `=>` has no byte below the blank up to its first line feed: its first word, and later words behind
-- one blank each. Assumes nothing.
use Prim.Native.Nat.{ℕ, zero, suc, ◌+◌, ◌-◌, ◌/◌, ◌%◌, ◌≤◌, ◌<◌}
use Prim.Native.String.{String}
use mathlib.Core.Bool.{Bool, true, false, cond, false≢true}
use mathlib.Core.List.{List, [], ◌∷◌, ◌++◌, append_assoc, append-nil}
use mathlib.Core.Logic.{inl}
use mathlib.Core.Path.{◌≡◌, refl, subst}
use native.Mathlib.Omega.{arith}
use lib.Dec.{eqb, ltb}
use lib.IntN.{ℤ}
use lib.ListN.{length, get_or}
use borrow.Author.Tests.{le-ltb}
use Rattle.unit.proofs.Cases.{by-test, by-ltb}
use Rattle.numeral.specs.Ascii.{ascii}
use Rattle.numeral.specs.Digit.{glyph, digits}
use Rattle.numeral.specs.Place.{joined}
use Rattle.numeral.specs.Print.{hex_bytes, decimal, signed_decimal, thousandths}
use Rattle.device.specs.declared.Model.{Model}
use Rattle.device.specs.declared.Answer.{Answer}
use Rattle.device.specs.declared.Answer.TheVariants.{Refused, Accepted, Ticked, Stretched, Good, Failed}
use Rattle.device.specs.declared.Report.{Report}
use Rattle.device.specs.declared.StretchReport.{StretchReport}
use Rattle.device.specs.Model.{is_sound}
use Rattle.device.specs.Registers.{register_word}
use Rattle.device.specs.Call.{Call}
use Rattle.device.specs.Reply.{reply}
use Rattle.quietest.specs.Quietest.{quietest_place}
use Rattle.listing.specs.Listing.{capture_digits, lines, last_above}
use Rattle.setup_frames.specs.Frames.{frames}
use Rattle.line.specs.declared.Content.{Content}
use Rattle.wording.specs.Wording.{Texts, line_feed, refusal_words, refusal_word, refusal, started, bus_answer, output_buffer, bus, set as set_texts, delivery_answer, delivery, numbered, report_at, tick_reports, later_named, named, stretched, stretch, counted, probe, degrees, refused, difference, difference_texts, record_texts, frame_lines, listing_head, quietest}
use Rattle.item_state.specs.Told.{told_value}
use Rattle.device.specs.Question.{interrupt_pending, awaited_told}
use Rattle.item_calls.specs.Lines.{call_line, timed_line, beside}
use Rattle.item_questions.specs.Answers.{interrupt, awaited, registers}
use Rattle.item_questions.proofs.Meaning.{row_of, rows_of, ten-rows}
use Rattle.item_analysis.specs.Lines.{width_of}
use Rattle.answer_text.specs.Texts.{told_of_transaction, told_of_bus, told_of_set, told_of_stretch, told_of_delivery, call_told, told_of_frames, question_told, told_of_probe, told_in_degrees, told_of_degrees, told_of_record, told_of_listing, told_of_place, told_of_quietest, recorded, analysis_told}
use Rattle.answer_text.specs.Line.{line_told}
use Rattle.session.specs.Line.{State}
use Rattle.line_text.specs.Text.{bare}
use Rattle.tick_parts.specs.Singly.{one_reported, singly}
use Rattle.replay_text.proofs.FirstLine.{visible, later_words, FirstLine, visible-append, seen, seen-append, one_line, some-line}
use Rattle.refusal.specs.declared.Refusal.{Refusal}
use Rattle.refusal.specs.Number.{number}
use Rattle.std.specs.Prelude.{Result, Ok, Err}

-- ---- numbers

digit-visible : (d : ℕ) → ltb (glyph d) 32 ≡ false
unfolding glyph
digit-visible d =
    by-ltb d 10 (λ _ e. rw e (le-ltb (48 + d) 32 (omega arith))) (λ _ e. rw e (le-ltb (55 + d) 32 (omega arith)))

digits-visible : (b k v : ℕ) → visible (digits b k v) ≡ true
unfolding digits visible
digits-visible b zero v = refl
digits-visible b (suc k) v =
    visible-append (digits b k (v / b)) (glyph (v % b) ∷ []) (digits-visible b k (v / b)) (rw (digit-visible (v % b)))

decimal-visible : (v : ℕ) → visible (decimal v) ≡ true
unfolding decimal
decimal-visible v = digits-visible 10 _ v

hex-visible : (bs : List ℕ) → visible (hex_bytes bs) ≡ true
unfolding hex_bytes visible
hex-visible [] = refl
hex-visible (b ∷ bs) = visible-append (digits 16 2 b) (hex_bytes bs) (digits-visible 16 2 b) (hex-visible bs)

signed-visible : (w : ℕ) → visible (signed_decimal w) ≡ true
unfolding signed_decimal visible
signed-visible w =
    by-test (ltb w 2147483648) (λ e. rw e (decimal-visible w)) (λ e. rw e (decimal-visible (4294967296 - w)))

thousandths-visible : (n : ℕ) → visible (thousandths n) ≡ true
unfolding thousandths visible
thousandths-visible n =
    visible-append (decimal (n / 1000)) (46 ∷ digits 10 3 (n % 1000)) (decimal-visible (n / 1000)) (digits-visible 10 3 (n % 1000))

-- ---- refusals

words_visible : List String → Bool
words_visible [] = true
words_visible (w ∷ ws) = cond (visible (ascii w)) (words_visible ws) false

word-visible : (ws : List String) → words_visible ws ≡ true → (n : ℕ) → visible (ascii (get_or ws n "unknown")) ≡ true
unfolding words_visible visible ascii
word-visible [] all n = refl
word-visible (w ∷ ws) all zero =
    by-test (visible (ascii w)) (λ e. e) (λ e. absurd (false≢true (rw e at all)))
word-visible (w ∷ ws) all (suc n) =
    by-test (visible (ascii w)) (λ e. word-visible ws (rw e at all) n) (λ e. absurd (false≢true (rw e at all)))

refusal-visible : (n : ℕ) → visible (ascii (refusal_word n)) ≡ true
unfolding refusal_word refusal_words words_visible visible ascii
refusal-visible n = word-visible refusal_words refl n

seen-refusal : (n : ℕ) → seen (refusal n) ≡ true
unfolding refusal seen visible ascii
seen-refusal n = rw (decimal-visible n, refusal-visible n)

-- ---- calls

seen-started : (f t : Bool) → seen (started f t) ≡ true
unfolding started seen visible ascii
seen-started true true = refl
seen-started true false = refl
seen-started false true = refl
seen-started false false = refl

seen-bus : (a : Answer) → seen (bus_answer a) ≡ true
unfolding bus_answer seen
seen-bus (Refused r) = seen-refusal (number r)
seen-bus (Accepted flight temperature) = seen-started flight temperature
seen-bus (Ticked flight temperature) = refl
seen-bus (Stretched flight temperature) = refl
seen-bus Good = refl
seen-bus Failed = refl

seen-output : (b : List ℕ) → seen (output_buffer b) ≡ true
unfolding output_buffer seen visible ascii
seen-output [] = refl
seen-output (b ∷ bs) = rw (hex-visible (b ∷ bs))

bus-line : (a : Answer) (b : List ℕ) → FirstLine (joined (bus a b))
unfolding bus seen visible ascii
bus-line a b =
    let texts : Texts = ascii "bus" ∷ (bus_answer a ++ output_buffer b) in
    subst (λ (t : Texts). FirstLine (joined (ascii "bus" ∷ t))) (append_assoc (bus_answer a) (output_buffer b) (line_feed ∷ []))
    (one_line texts (seen-append (bus_answer a) (output_buffer b) (seen-bus a) (seen-output b)))

set_line : (a : Answer) → FirstLine (joined (set_texts a))
unfolding set_texts seen visible ascii
set_line a = one_line (ascii "set" ∷ bus_answer a) (seen-bus a)

seen-delivery : (a : Answer) → seen (delivery_answer a) ≡ true
unfolding delivery_answer seen visible ascii
seen-delivery (Refused r) = seen-refusal (number r)
seen-delivery (Accepted flight temperature) = refl
seen-delivery (Ticked flight temperature) = refl
seen-delivery (Stretched flight temperature) = refl
seen-delivery Good = refl
seen-delivery Failed = refl

delivery-line : (kind : List ℕ) (a : Answer) → visible kind ≡ true → FirstLine (joined (delivery kind a))
unfolding delivery seen
delivery-line kind a shown = one_line (kind ∷ delivery_answer a) (rw shown (seen-delivery a))

-- ---- ticks

seen-report : (t : Bool) (what : List ℕ) (i : ℕ) → visible what ≡ true → seen (report_at t what i) ≡ true
unfolding report_at seen
seen-report true what i shown = rw (shown, decimal-visible i)
seen-report false what i shown = refl

seen-four : (a b c d : Texts) → seen a ≡ true → seen b ≡ true → seen c ≡ true → seen d ≡ true → seen (a ++ (b ++ (c ++ d))) ≡ true
seen-four a b c d x y z w = seen-append a (b ++ (c ++ d)) x (seen-append b (c ++ d) y (seen-append c d z w))

seen-reports : (f t : StretchReport) (i done : ℕ) → seen (tick_reports f t i done) ≡ true
unfolding tick_reports visible ascii
seen-reports f t i done =
    seen-four _ _ _ _ (seen-report (eqb f.failed.0 i) (ascii " failed-flight@") _ refl) (seen-report (eqb f.started.0 i) (ascii " started-flight@") _ refl)
    (seen-report (eqb t.failed.0 i) (ascii " failed-temperature@") _ refl) (seen-report (eqb t.started.0 i) (ascii " started-temperature@") _ refl)

seen-named : (f t : StretchReport) (done : ℕ) → seen (named f t done) ≡ true
unfolding named later_named
seen-named f t done =
    seen-four _ _ _ _ (seen-reports f t _ done) (seen-reports f t _ done) (seen-reports f t _ done) (seen-reports f t _ done)

seen-stretched : (a : Answer) (n : ℕ) → seen (stretched a n) ≡ true
unfolding stretched seen visible ascii
seen-stretched (Refused r) n = seen-refusal (number r)
seen-stretched (Accepted flight temperature) n = refl
seen-stretched (Ticked flight temperature) n = refl
seen-stretched (Stretched flight temperature) n = rw (decimal-visible n) (seen-named flight temperature 0)
seen-stretched Good n = refl
seen-stretched Failed n = refl

stretch-line : (a : Answer) (n : ℕ) → FirstLine (joined (stretch a n))
unfolding stretch seen visible ascii
stretch-line a n = one_line (ascii "stretch" ∷ stretched a n) (seen-stretched a n)

seen-tick : (f t : Report) (i : ℕ) → seen (one_reported (Ticked f t) i) ≡ true
unfolding one_reported visible ascii
seen-tick f t i =
    seen-four _ _ _ _ (seen-report f.failed (ascii " failed-flight@") i refl) (seen-report f.started (ascii " started-flight@") i refl)
    (seen-report t.failed (ascii " failed-temperature@") i refl) (seen-report t.started (ascii " started-temperature@") i refl)

seen_one : (a : Answer) (i : ℕ) → seen (one_reported a i) ≡ true
unfolding one_reported seen
seen_one (Refused r) i = refl
seen_one (Accepted f t) i = refl
seen_one (Ticked f t) i = seen-tick f t i
seen_one (Stretched f t) i = refl
seen_one Good i = refl
seen_one Failed i = refl

seen-singly : (n before : ℕ) (m : Model) → seen (singly n before m).texts ≡ true
unfolding singly seen
seen-singly zero before m = refl
seen-singly (suc n) before m =
    let r = reply m Call.tick in
    seen-append (one_reported r.answer (before + 1)) (singly n (before + 1) r.model).texts (seen_one r.answer (before + 1)) (seen-singly n (before + 1) r.model)

-- `tick N` and `at T`, by their ticks one by one
pub ticks-line : (word : List ℕ) (number n before : ℕ) (m : Model) → visible word ≡ true
    → FirstLine (joined (numbered word number ++ ((singly n before m).texts ++ (line_feed ∷ []))))
unfolding numbered seen
ticks-line word number n before m shown =
    one_line (word ∷ decimal number ∷ (singly n before m).texts) (rw (shown, decimal-visible number) (seen-singly n before m))

-- ---- what stands beside the model

probe-line : (n : ℕ) → FirstLine (joined (probe n))
unfolding probe counted seen visible ascii
probe-line n = one_line (ascii "probe " ∷ decimal n ∷ []) (rw (decimal-visible n))

refused-line : (word : List ℕ) (number : ℕ) → visible word ≡ true → FirstLine (joined (refused word number))
unfolding refused seen
refused-line word number shown = one_line (word ∷ refusal number) (rw shown (seen-refusal number))

degrees-line : (n : ℕ) → FirstLine (joined (degrees n))
unfolding degrees seen visible ascii
degrees-line n = one_line (ascii "degrees " ∷ thousandths n ∷ []) (rw (thousandths-visible n))

in-degrees-line : (d : Result ℕ Refusal) (c : List ℕ) → FirstLine (joined (told_in_degrees d c).texts)
unfolding told_in_degrees visible ascii
in-degrees-line (Ok n) c = degrees-line n
in-degrees-line (Err r) c = refused-line (ascii "degrees") (number r) refl

seen-differences : (ws : List ℕ) → seen (difference_texts ws) ≡ true
unfolding difference_texts difference seen visible ascii
seen-differences [] = refl
seen-differences (w ∷ ws) = rw (signed-visible w) (seen-differences ws)

record-line : (ws : List ℕ) → FirstLine (joined (record_texts ws))
unfolding record_texts seen visible ascii
record-line ws = one_line (ascii "record" ∷ difference_texts ws) (seen-differences ws)

quietest-line : (start spread : ℕ) → FirstLine (joined (quietest start spread))
unfolding quietest counted seen visible ascii
quietest-line start spread =
    one_line (ascii "quietest " ∷ decimal start ∷ ascii " " ∷ decimal spread ∷ []) (rw (decimal-visible start, decimal-visible spread))

place-line : (q : Result ℕ Refusal) (values : List ℤ) (width : ℕ) (c : List ℕ) → FirstLine (joined (told_of_place q values width c).texts)
unfolding told_of_place visible ascii
place-line (Ok start) values width c = quietest-line start _
place-line (Err r) values width c = refused-line (ascii "quietest") (number r) refl

-- ---- answers of more than one line

listing-some : (used : ℕ) (rest : Texts) → FirstLine (joined (listing_head used ++ rest))
unfolding listing_head counted seen visible ascii joined later_words
listing-some used rest =
    some-line (ascii "listing " ∷ decimal used ∷ []) rest (rw (decimal-visible used)) (omega arith)

listing-line : (d first : ℕ) (values : List ℤ) (used : ℕ) (c : List ℕ) → FirstLine (joined (told_of_listing d first values used c).texts)
unfolding told_of_listing visible ascii
listing-line d first values used c =
    by-test (last_above d first (length values)) (λ e. rw e (refused-line (ascii "listing") 20 refl))
    (λ e. rw e (listing-some used (lines d first values ∷ [])))

frames-some : (k : ℕ) (rest : Texts) → FirstLine (joined (ascii "frames " ∷ (counted k line_feed ++ rest)))
unfolding counted seen visible ascii joined later_words
frames-some k rest = some-line (ascii "frames " ∷ decimal k ∷ []) rest (rw (decimal-visible k)) (omega arith)

frames-line : (m : Model) (c : List ℕ) → FirstLine (joined (told_of_frames m c).texts)
unfolding told_of_frames visible ascii
frames-line m c =
    by-test (is_sound m) (λ e. rw e (frames-some (length (frames m.setup)) (frame_lines (frames m.setup))))
    (λ e. rw e (refused-line (ascii "frames") 0 refl))

-- ---- questions

interrupt-line : (m : Model) → FirstLine (joined (interrupt m))
unfolding interrupt joined visible ascii
interrupt-line m = go (eqb (told_value (interrupt_pending m)) 0)
  where
    go : (t : Bool) → FirstLine (cond t (ascii "int no\n") (ascii "int yes\n") ++ [])
    go true = record { start = ascii "int no"; rest = []; is = refl; shown = refl; parted = inl refl }
    go false = record { start = ascii "int yes"; rest = []; is = refl; shown = refl; parted = inl refl }

awaited-line : (m : Model) → FirstLine (joined (awaited m))
unfolding awaited seen visible ascii
awaited-line m =
    let f = told_value (awaited_told m m.flight.schedule) in
    let t = told_value (awaited_told m m.temperature.schedule) in
    one_line (ascii "awaited " ∷ decimal f ∷ ascii " " ∷ decimal t ∷ []) (rw (decimal-visible f, decimal-visible t))

-- the first line of `regs`
row_line : (word : ℕ → ℕ) (a : ℕ) (rest : Texts) → 0 < length (later_words (joined (row_of word a ++ rest))) → FirstLine (joined (row_of word a ++ rest))
unfolding seen visible ascii
row_line word a rest blank =
    some-line (
    digits 16 2 a
    ∷ ascii " " ∷ digits 16 4 (word a)
    ∷ ascii " " ∷ digits 16 4 (word (a + 1))
    ∷ ascii " " ∷ digits 16 4 (word (a + 2))
    ∷ ascii " " ∷ digits 16 4 (word (a + 3))
    ∷ ascii " " ∷ digits 16 4 (word (a + 4))
    ∷ ascii " " ∷ digits 16 4 (word (a + 5))
    ∷ ascii " " ∷ digits 16 4 (word (a + 6))
    ∷ ascii " " ∷ digits 16 4 (word (a + 7)) ∷ []
    ) rest
    (rw (
      digits-visible 16 2 a,
      digits-visible 16 4 (word a),
      digits-visible 16 4 (word (a + 1)),
      digits-visible 16 4 (word (a + 2)),
      digits-visible 16 4 (word (a + 3)),
      digits-visible 16 4 (word (a + 4)),
      digits-visible 16 4 (word (a + 5)),
      digits-visible 16 4 (word (a + 6)),
      digits-visible 16 4 (word (a + 7)),
    )) blank

regs-line : (m : Model) → is_sound m ≡ true → FirstLine (joined (registers m))
unfolding rows_of joined digits glyph ascii later_words
regs-line m sound = rw (ten-rows m sound) (row_line (register_word m) 0xB0 (rows_of (register_word m) 0xB8 9) (omega arith))

-- ---- any such line

-- The lines that may carry `=>`, but for `tick` and `at`.
unfoldable pub is_judged : Content → Bool
is_judged Content.Nothing = false
is_judged Content.TooLong = false
is_judged Content.UnknownWord = false
is_judged Content.BadNumber = false
is_judged Content.WrongCount = false
is_judged Content.Item = false
is_judged (Content.Bus n) = true
is_judged (Content.BusOut size n) = true
is_judged (Content.Tick n) = false
is_judged (Content.Flight up down) = true
is_judged (Content.Temperature n) = true
is_judged Content.Int = true
is_judged Content.Awaited = true
is_judged Content.Regs = true
is_judged (Content.Expect a n) = false
is_judged Content.Show = false
is_judged (Content.Set a n) = true
is_judged (Content.At t) = false
is_judged (Content.Stretch n) = true
is_judged Content.Frames = true
is_judged (Content.Probe n) = true
is_judged Content.Degrees = true
is_judged (Content.Record n) = true
is_judged (Content.Listing old first) = true
is_judged (Content.Quietest n) = true

module _ (numbers : List ℕ) (s : State) (c : List ℕ) where
  abbrev Lined : Content → Type 0
  Lined content = FirstLine (joined (line_told content numbers (bare s c) s.differences s.probes).texts)

  -- texts with nothing behind them
  alone : (t : Texts) → FirstLine (joined t) → FirstLine (joined ((t ++ []) ++ []))
  alone t f = rw (append-nil (t ++ []), append-nil t) f

  bus-told : (n : ℕ) → Lined (Content.Bus n)
  unfolding line_told call_told question_told analysis_told told_of_bus told_of_transaction
  bus-told n = alone _ (bus-line _ _)

  out-told : (size n : ℕ) → Lined (Content.BusOut size n)
  unfolding line_told call_told question_told analysis_told told_of_bus told_of_transaction
  out-told size n = alone _ (bus-line _ _)

  set_told : (a n : ℕ) → Lined (Content.Set a n)
  unfolding line_told call_told question_told analysis_told told_of_set told_of_transaction
  set_told a n = alone _ (set_line _)

  flight-told : (up down : ℕ) → Lined (Content.Flight up down)
  unfolding line_told call_told question_told analysis_told told_of_delivery visible ascii
  flight-told up down = alone _ (delivery-line (ascii "flight") _ refl)

  temperature-told : (n : ℕ) → Lined (Content.Temperature n)
  unfolding line_told call_told question_told analysis_told told_of_delivery visible ascii
  temperature-told n = alone _ (delivery-line (ascii "temperature") _ refl)

  stretch-told : (n : ℕ) → Lined (Content.Stretch n)
  unfolding line_told call_told question_told analysis_told told_of_stretch
  stretch-told n = alone _ (stretch-line _ n)

  int-told : Lined Content.Int
  unfolding line_told call_told question_told analysis_told call_line timed_line beside
  int-told = rw (append-nil (interrupt s.model)) (interrupt-line s.model)

  awaited-told : Lined Content.Awaited
  unfolding line_told call_told question_told analysis_told call_line timed_line beside
  awaited-told = rw (append-nil (awaited s.model)) (awaited-line s.model)

  regs-told : is_sound s.model ≡ true → Lined Content.Regs
  unfolding line_told call_told question_told analysis_told call_line timed_line beside
  regs-told sound = rw (append-nil (registers s.model)) (regs-line s.model sound)

  frames-told : Lined Content.Frames
  unfolding line_told call_told question_told analysis_told call_line timed_line beside
  frames-told = let t = (told_of_frames s.model c).texts in rw (append-nil t) (frames-line s.model c)

  probe-told : (n : ℕ) → Lined (Content.Probe n)
  unfolding line_told call_told question_told analysis_told told_of_probe
  probe-told n = probe-line _

  -- `degrees` has two numbers, as every line that is read as one has
  degrees-told : 2 ≤ length numbers → Lined Content.Degrees
  unfolding line_told call_told question_told analysis_told told_of_degrees
  degrees-told two = rw (le-ltb (length numbers) 2 two) (in-degrees-line _ c)

  record-told : (n : ℕ) → Lined (Content.Record n)
  unfolding line_told call_told question_told analysis_told told_of_record
  record-told n = record-line _

  listing-told : (old : Bool) (first : ℕ) → Lined (Content.Listing old first)
  unfolding line_told call_told question_told analysis_told
  listing-told old first = listing-line (capture_digits (width_of old)) first (recorded s.differences c) (get_or c 10 0) c

  quietest-told : (n : ℕ) → Lined (Content.Quietest n)
  unfolding line_told call_told question_told analysis_told told_of_quietest
  quietest-told n = place-line (quietest_place (recorded s.differences c) n) (recorded s.differences c) n c

  pub line-shape : is_sound s.model ≡ true → 2 ≤ length numbers → (content : Content) → is_judged content ≡ true → Lined content
  unfolding is_judged
  line-shape sound two Content.Nothing may = absurd (false≢true may)
  line-shape sound two Content.TooLong may = absurd (false≢true may)
  line-shape sound two Content.UnknownWord may = absurd (false≢true may)
  line-shape sound two Content.BadNumber may = absurd (false≢true may)
  line-shape sound two Content.WrongCount may = absurd (false≢true may)
  line-shape sound two Content.Item may = absurd (false≢true may)
  line-shape sound two (Content.Bus n) may = bus-told n
  line-shape sound two (Content.BusOut size n) may = out-told size n
  line-shape sound two (Content.Tick n) may = absurd (false≢true may)
  line-shape sound two (Content.Flight up down) may = flight-told up down
  line-shape sound two (Content.Temperature n) may = temperature-told n
  line-shape sound two Content.Int may = int-told
  line-shape sound two Content.Awaited may = awaited-told
  line-shape sound two Content.Regs may = regs-told sound
  line-shape sound two (Content.Expect a n) may = absurd (false≢true may)
  line-shape sound two Content.Show may = absurd (false≢true may)
  line-shape sound two (Content.Set a n) may = set_told a n
  line-shape sound two (Content.At t) may = absurd (false≢true may)
  line-shape sound two (Content.Stretch n) may = stretch-told n
  line-shape sound two Content.Frames may = frames-told
  line-shape sound two (Content.Probe n) may = probe-told n
  line-shape sound two Content.Degrees may = degrees-told two
  line-shape sound two (Content.Record n) may = record-told n
  line-shape sound two (Content.Listing old first) may = listing-told old first
  line-shape sound two (Content.Quietest n) may = quietest-told n
