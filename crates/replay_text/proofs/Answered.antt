-- A call is refused exactly where its answer begins with `no`, and these are the refusals of a text. Assumes nothing.
use Prim.Native.Nat.{ℕ, ◌/◌, ◌%◌, ◌≤◌, ◌<◌, min}
use mathlib.Core.Path.{◌≡◌, refl, sym, ap, ◌∙◌}
use mathlib.Core.Bool.{Bool, true, false, cond, false≢true}
use mathlib.Core.List.{List, [], ◌∷◌, ◌++◌, append-nil, append_assoc}
use native.Mathlib.Omega.{arith}
use lib.Dec.{eqb, ltb}
use lib.IntN.{ℤ}
use lib.ListN.{length, get_or, take}
use Rattle.unit.proofs.Cases.{by-test, by_eqb}
use Rattle.numeral.specs.Digit.{digit_of, are_digits, digits}
use Rattle.numeral.specs.Place.{joined}
use Rattle.numeral.specs.Print.{decimal_width, decimal, thousandths}
use Rattle.numeral.proofs.DigitLaws.{are-digits}
use Rattle.numeral.proofs.PrintLaws.{width_some, length-decimal}
use Rattle.device.specs.declared.Model.{Model}
use Rattle.device.specs.declared.Report.{Report}
use Rattle.device.specs.declared.Answer.{Answer}
use Rattle.device.specs.declared.Answer.TheVariants.{Refused, Accepted, Ticked, Stretched, Good, Failed}
use Rattle.device.specs.Model.{is_sound}
use Rattle.device.specs.Call.{Call}
use Rattle.device.specs.Reply.{reply, number_in}
use Rattle.device.proofs.Replies.{reply-tick}
use Rattle.quietest.specs.Quietest.{quietest_place}
use Rattle.listing.specs.Listing.{capture_digits, lines, last_above}
use Rattle.setup_frames.specs.Frames.{frames}
use Rattle.line.specs.declared.Content.{Content}
use Rattle.line_buffer.specs.Lines.{text_lines}
use Rattle.numeral.specs.Ascii.{ascii}
use Rattle.wording.specs.Wording.{Texts, line_feed, refusal, started, bus_answer, output_buffer, bus, set as set_texts, delivery_answer, delivery, numbered, quiet, ticked as tick_texts, single, stretched, stretch, counted, degrees, refused, listing_head, quietest, frame_lines}
use Rattle.item_state.specs.Log.{refusals}
use Rattle.item_calls.specs.Lines.{call_line, timed_line, beside}
use Rattle.item_analysis.specs.Lines.{degrees_of, width_of}
use Rattle.item_checks.specs.Fault.{is_fault, left_of}
use Rattle.item_checks.specs.Open.{is_item}
use Rattle.item_checks.specs.Close.{place_of, starts_with, begins_with}
use Rattle.answer_text.specs.Texts.{told_of_transaction, told_of_bus, told_of_set, told_of_single, told_of_tick, told_of_stretch, told_of_delivery, call_told, told_of_frames, question_told, told_in_degrees, told_of_degrees, told_of_listing, told_of_place, told_of_quietest, recorded, analysis_told}
use Rattle.answer_text.specs.Line.{line_told}
use Rattle.session.specs.Line.{State}
use Rattle.line_text.specs.Text.{fault_told, item_told, head_of, bare}
use Rattle.replay_text.specs.Replay.{tick_lines, ticks_told, told_by, opening, own_whole, Page, first_page, last_page}
use Rattle.replay_text.specs.LastLine.{counts_of, read_on, line_own, is_bad, is_call_line, was_call, says_no, answered_no, lines_that}
use Rattle.replay_text.proofs.Refusals.{degrees_refused, place_refused, refused_of, refused-most, refused-same}
use Rattle.replay_text.proofs.Counts.{begun-alike, begun-fault}
use Rattle.replay_text.proofs.Gains.{in_own, own_alone}
use Rattle.replay_text.proofs.Order.{InOrder, text-counts}
use Rattle.refusal.specs.declared.Refusal.{Refusal}
use Rattle.refusal.specs.Number.{number}
use Rattle.std.specs.Prelude.{Result, Ok, Err}

-- ---- a number is no `no`

letter : (ds : List ℕ) → are_digits 10 (110 ∷ ds) ≡ true → ⊥
unfolding are_digits digit_of
letter ds e = false≢true e

first-digit : (d : ℕ) (ds : List ℕ) → are_digits 10 (d ∷ ds) ≡ true → eqb d 110 ≡ false
first-digit d ds are = by_eqb d 110 (λ e _. absurd (letter ds (rw e at are))) (λ _ f. f)

digits-start : (ds wanted rest : List ℕ) → are_digits 10 ds ≡ true → 0 < length ds → starts_with (110 ∷ wanted) (ds ++ rest) ≡ false
unfolding starts_with
digits-start [] wanted rest are some = absurd (omega (arith, some))
digits-start (d ∷ ds) wanted rest are some = rw (first-digit d ds are)

number-start : (n : ℕ) (wanted rest : List ℕ) → starts_with (110 ∷ wanted) (decimal n ++ rest) ≡ false
unfolding decimal decimal_width
number-start n wanted rest =
    digits-start (decimal n) wanted rest (are-digits 10 (omega arith) (omega arith) (decimal_width n) n)
    (rw (length-decimal n) (width_some 19 n))

-- ---- answers by their kinds

bus-no : (a : Answer) (buffer : List ℕ) → says_no (bus a buffer) ≡ eqb (refusals a) 1
unfolding bus bus_answer refusal started output_buffer joined ascii begins_with starts_with place_of refusals number_in
bus-no (Refused r) buffer = refl
bus-no (Accepted true true) buffer = refl
bus-no (Accepted true false) buffer = refl
bus-no (Accepted false true) buffer = refl
bus-no (Accepted false false) buffer = refl
bus-no (Ticked flight temperature) [] = refl
bus-no (Ticked flight temperature) (b ∷ bs) = refl
bus-no (Stretched flight temperature) [] = refl
bus-no (Stretched flight temperature) (b ∷ bs) = refl
bus-no Good [] = refl
bus-no Good (b ∷ bs) = refl
bus-no Failed [] = refl
bus-no Failed (b ∷ bs) = refl

set-no : (a : Answer) → says_no (set_texts a) ≡ eqb (refusals a) 1
unfolding set_texts bus_answer refusal started joined ascii begins_with starts_with place_of refusals number_in
set-no (Refused r) = refl
set-no (Accepted true true) = refl
set-no (Accepted true false) = refl
set-no (Accepted false true) = refl
set-no (Accepted false false) = refl
set-no (Ticked flight temperature) = refl
set-no (Stretched flight temperature) = refl
set-no Good = refl
set-no Failed = refl

flight-no : (a : Answer) → says_no (delivery (ascii "flight") a) ≡ eqb (refusals a) 1
unfolding delivery delivery_answer refusal joined ascii begins_with starts_with place_of refusals number_in
flight-no (Refused r) = refl
flight-no (Accepted flight temperature) = refl
flight-no (Ticked flight temperature) = refl
flight-no (Stretched flight temperature) = refl
flight-no Good = refl
flight-no Failed = refl

temperature-no : (a : Answer) → says_no (delivery (ascii "temperature") a) ≡ eqb (refusals a) 1
unfolding delivery delivery_answer refusal joined ascii begins_with starts_with place_of refusals number_in
temperature-no (Refused r) = refl
temperature-no (Accepted flight temperature) = refl
temperature-no (Ticked flight temperature) = refl
temperature-no (Stretched flight temperature) = refl
temperature-no Good = refl
temperature-no Failed = refl

stretch-no : (a : Answer) (n : ℕ) → says_no (stretch a n) ≡ eqb (refusals a) 1
unfolding stretch stretched refusal joined ascii begins_with place_of starts_with refusals number_in
stretch-no (Refused r) n = refl
stretch-no (Accepted flight temperature) n = refl
stretch-no (Ticked flight temperature) n = refl
stretch-no (Stretched flight temperature) n = number-start n (111 ∷ []) _
stretch-no Good n = refl
stretch-no Failed n = refl

single-no : (flight temperature : Report) → says_no (single (Ticked flight temperature)) ≡ false
unfolding single tick_texts joined ascii begins_with place_of starts_with
single-no flight temperature = go (quiet flight temperature)
  where
    go : (t : Bool) → says_no (cond t (ascii "tick 1\n" ∷ []) (tick_texts flight temperature)) ≡ false
    go true = refl
    go false = refl

ticks-no : (n : ℕ) (rest : Texts) → says_no (numbered (ascii "tick ") n ++ rest) ≡ false
unfolding numbered joined ascii begins_with place_of
ticks-no n rest = number-start n (111 ∷ []) (joined rest)

at-no : (t : ℕ) (rest : Texts) → says_no (numbered (ascii "at ") t ++ rest) ≡ false
unfolding numbered joined ascii begins_with place_of
at-no t rest = number-start t (111 ∷ []) (joined rest)

cond_no : (t : Bool) (x y : Texts) (k k' : ℕ) → says_no x ≡ eqb k 1 → says_no y ≡ eqb k' 1 → says_no (cond t x y) ≡ eqb (cond t k k') 1
cond_no true x y k k' one other = one
cond_no false x y k k' one other = other

frames-none : (number : ℕ) → says_no (refused (ascii "frames") number) ≡ true
unfolding refused refusal joined ascii begins_with starts_with place_of
frames-none number = refl

degrees-none : (number : ℕ) → says_no (refused (ascii "degrees") number) ≡ true
unfolding refused refusal joined ascii begins_with starts_with place_of
degrees-none number = refl

listing_none : (number : ℕ) → says_no (refused (ascii "listing") number) ≡ true
unfolding refused refusal joined ascii begins_with starts_with place_of
listing_none number = refl

quietest-none : (number : ℕ) → says_no (refused (ascii "quietest") number) ≡ true
unfolding refused refusal joined ascii begins_with starts_with place_of
quietest-none number = refl

frames-some : (k : ℕ) (rest : Texts) → says_no (ascii "frames " ∷ (counted k line_feed ++ rest)) ≡ false
unfolding counted joined ascii begins_with place_of
frames-some k rest = number-start k (111 ∷ []) (line_feed ++ joined rest)

frames-no : (m : Model) (c : List ℕ) → says_no (told_of_frames m c).texts ≡ eqb (cond (is_sound m) 0 1) 1
unfolding told_of_frames
frames-no m c =
    by-test (is_sound m) (λ e. rw e (frames-some (length (frames m.setup)) (frame_lines (frames m.setup)))) (λ e. rw e (frames-none 0))

degrees-some : (n : ℕ) → says_no (degrees n) ≡ false
unfolding degrees thousandths joined ascii begins_with place_of
degrees-some n =
    rw (append_assoc (decimal (n / 1000)) (46 ∷ digits 10 3 (n % 1000)) (line_feed ++ [])) (number-start (n / 1000) (111 ∷ []) ((46 ∷ digits 10 3 (n % 1000)) ++ (line_feed ++ [])))

degrees-no : (d : Result ℕ Refusal) (c : List ℕ) → says_no (told_in_degrees d c).texts ≡ eqb (degrees_refused d) 1
unfolding told_in_degrees degrees_refused
degrees-no (Ok n) c = degrees-some n
degrees-no (Err r) c = degrees-none (number r)

listing-some : (used : ℕ) (rest : Texts) → says_no (listing_head used ++ rest) ≡ false
unfolding listing_head counted joined ascii begins_with place_of
listing-some used rest = number-start used (111 ∷ []) (line_feed ++ joined rest)

listing-no : (d first : ℕ) (values : List ℤ) (used : ℕ) (c : List ℕ)
    → says_no (told_of_listing d first values used c).texts ≡ eqb (cond (last_above d first (length values)) 1 0) 1
unfolding told_of_listing
listing-no d first values used c =
    by-test (last_above d first (length values)) (λ e. rw e (listing_none 20)) (λ e. rw e (listing-some used (lines d first values ∷ [])))

quietest-some : (start spread : ℕ) → says_no (quietest start spread) ≡ false
unfolding quietest counted joined ascii begins_with place_of
quietest-some start spread = number-start start (111 ∷ []) _

quietest-no : (q : Result ℕ Refusal) (values : List ℤ) (width : ℕ) (c : List ℕ) → says_no (told_of_place q values width c).texts ≡ eqb (place_refused q) 1
unfolding told_of_place place_refused
quietest-no (Ok start) values width c = quietest-some start _
quietest-no (Err r) values width c = quietest-none (number r)

-- ---- any call

module _ (numbers : List ℕ) (s : State) (c : List ℕ) where
  -- the texts of a line that moves the model
  abbrev Moves : Content → Type 0
  Moves content =
      (line_told content numbers (bare s c) s.differences s.probes).texts ≡ (call_told content numbers (bare s c)).texts

  bus-texts : (n : ℕ) → Moves (Content.Bus n)
  unfolding line_told question_told analysis_told
  bus-texts n = let t = (call_told (Content.Bus n) numbers (bare s c)).texts in rw (append-nil t, append-nil t)

  out-texts : (size n : ℕ) → Moves (Content.BusOut size n)
  unfolding line_told question_told analysis_told
  out-texts size n = let t = (call_told (Content.BusOut size n) numbers (bare s c)).texts in rw (append-nil t, append-nil t)

  set-texts : (a n : ℕ) → Moves (Content.Set a n)
  unfolding line_told question_told analysis_told
  set-texts a n = let t = (call_told (Content.Set a n) numbers (bare s c)).texts in rw (append-nil t, append-nil t)

  tick-texts : (n : ℕ) → Moves (Content.Tick n)
  unfolding line_told question_told analysis_told
  tick-texts n = let t = (call_told (Content.Tick n) numbers (bare s c)).texts in rw (append-nil t, append-nil t)

  flight-texts : (up down : ℕ) → Moves (Content.Flight up down)
  unfolding line_told question_told analysis_told
  flight-texts up down = let t = (call_told (Content.Flight up down) numbers (bare s c)).texts in rw (append-nil t, append-nil t)

  temperature-texts : (n : ℕ) → Moves (Content.Temperature n)
  unfolding line_told question_told analysis_told
  temperature-texts n = let t = (call_told (Content.Temperature n) numbers (bare s c)).texts in rw (append-nil t, append-nil t)

  stretch-texts : (n : ℕ) → Moves (Content.Stretch n)
  unfolding line_told question_told analysis_told
  stretch-texts n = let t = (call_told (Content.Stretch n) numbers (bare s c)).texts in rw (append-nil t, append-nil t)

  frames-texts : (line_told Content.Frames numbers (bare s c) s.differences s.probes).texts ≡ (told_of_frames s.model c).texts
  unfolding line_told call_told question_told analysis_told call_line timed_line beside
  frames-texts = let t = (told_of_frames s.model c).texts in rw (append-nil t)

  single-tick : is_sound s.model ≡ true → (n : ℕ) → eqb n 1 ≡ true
      → says_no (call_told (Content.Tick n) numbers (bare s c)).texts ≡ eqb (refusals (reply s.model Call.tick).answer) 1
  unfolding call_told told_of_tick told_of_single refusals number_in
  single-tick sound n one = rw (one, reply-tick s.model sound) (single-no _ _)

  degrees-line : says_no (line_told Content.Degrees numbers (bare s c) s.differences s.probes).texts ≡ eqb (refused_of Content.Degrees numbers s c) 1
  unfolding line_told call_told question_told analysis_told refused_of told_of_degrees joined ascii begins_with starts_with place_of
  degrees-line =
      by-test (ltb (length numbers) 2) (λ e. rw e refl)
      (λ e. rw e (degrees-no (degrees_of (take (get_or c 11 0) s.probes) (get_or numbers 0 0) (get_or numbers 1 0)) c))

  listing-line : (old : Bool) (first : ℕ)
      → says_no (line_told (Content.Listing old first) numbers (bare s c) s.differences s.probes).texts ≡ eqb (refused_of (Content.Listing old first) numbers s c) 1
  unfolding line_told call_told question_told analysis_told refused_of
  listing-line old first = listing-no (capture_digits (width_of old)) first (recorded s.differences c) (get_or c 10 0) c

  quietest-line : (n : ℕ)
      → says_no (line_told (Content.Quietest n) numbers (bare s c) s.differences s.probes).texts ≡ eqb (refused_of (Content.Quietest n) numbers s c) 1
  unfolding line_told call_told question_told analysis_told refused_of told_of_quietest
  quietest-line n = quietest-no (quietest_place (recorded s.differences c) n) (recorded s.differences c) n c

  tick-no : is_sound s.model ≡ true → (n : ℕ)
      → says_no (told_by (tick_lines (Content.Tick n) c) (Content.Tick n) numbers s c).texts ≡ eqb (refused_of (Content.Tick n) numbers s c) 1
  unfolding told_by tick_lines ticks_told refused_of
  tick-no sound n =
      by-test (eqb n 1) (λ one. rw (one, tick-texts n) (single-tick sound n one)) (λ more. rw more (ticks-no n _))

  -- Of a sound model, as every text has it, a call is refused exactly where its answer begins with `no`.
  pub call-no : is_sound s.model ≡ true → (content : Content) → is_call_line content ≡ true
      → says_no (told_by (tick_lines content c) content numbers s c).texts ≡ eqb (refused_of content numbers s c) 1
  unfolding told_by tick_lines ticks_told refused_of is_call_line call_told told_of_bus told_of_set told_of_transaction told_of_stretch told_of_delivery
  call-no sound Content.Nothing call = absurd (false≢true call)
  call-no sound Content.TooLong call = absurd (false≢true call)
  call-no sound Content.UnknownWord call = absurd (false≢true call)
  call-no sound Content.BadNumber call = absurd (false≢true call)
  call-no sound Content.WrongCount call = absurd (false≢true call)
  call-no sound Content.Item call = absurd (false≢true call)
  call-no sound (Content.Bus n) call = rw (bus-texts n) (bus-no _ _)
  call-no sound (Content.BusOut size n) call = rw (out-texts size n) (bus-no _ _)
  call-no sound (Content.Tick n) call = tick-no sound n
  call-no sound (Content.Flight up down) call = rw (flight-texts up down) (flight-no _)
  call-no sound (Content.Temperature n) call = rw (temperature-texts n) (temperature-no _)
  call-no sound Content.Int call = absurd (false≢true call)
  call-no sound Content.Awaited call = absurd (false≢true call)
  call-no sound Content.Regs call = absurd (false≢true call)
  call-no sound (Content.Expect a n) call = absurd (false≢true call)
  call-no sound Content.Show call = absurd (false≢true call)
  call-no sound (Content.Set a n) call = rw (set-texts a n) (set-no _)
  call-no sound (Content.At t) call = at-no t _
  call-no sound (Content.Stretch n) call = rw (stretch-texts n) (stretch-no _ n)
  call-no sound Content.Frames call = rw frames-texts (frames-no s.model c)
  call-no sound (Content.Probe n) call = absurd (false≢true call)
  call-no sound Content.Degrees call = degrees-line
  call-no sound (Content.Record n) call = absurd (false≢true call)
  call-no sound (Content.Listing old first) call = listing-line old first
  call-no sound (Content.Quietest n) call = quietest-line n

-- ---- a whole line

call-item : (content : Content) → is_call_line content ≡ true → is_item content ≡ false
unfolding is_call_line is_item
call-item Content.Nothing call = refl
call-item Content.TooLong call = refl
call-item Content.UnknownWord call = refl
call-item Content.BadNumber call = refl
call-item Content.WrongCount call = refl
call-item Content.Item call = absurd (false≢true call)
call-item (Content.Bus n) call = refl
call-item (Content.BusOut size n) call = refl
call-item (Content.Tick n) call = refl
call-item (Content.Flight up down) call = refl
call-item (Content.Temperature n) call = refl
call-item Content.Int call = refl
call-item Content.Awaited call = refl
call-item Content.Regs call = refl
call-item (Content.Expect a n) call = refl
call-item Content.Show call = refl
call-item (Content.Set a n) call = refl
call-item (Content.At t) call = refl
call-item (Content.Stretch n) call = refl
call-item Content.Frames call = refl
call-item (Content.Probe n) call = refl
call-item Content.Degrees call = refl
call-item (Content.Record n) call = refl
call-item (Content.Listing old first) call = refl
call-item (Content.Quietest n) call = refl

zero-or-one : (n : ℕ) → n ≤ 1 → n ≡ cond (eqb n 1) 1 0
zero-or-one n most = by_eqb n 1 (λ one e. rw e one) (λ other e. rw e (omega (arith, most, other)))

own-no : (line : List ℕ) (p : Page) → length (counts_of p) ≡ 22 → is_sound p.replay.state.model ≡ true
    → is_fault (read_on line p).content (counts_of p) ≡ false → is_call_line (read_on line p).content ≡ true
    → says_no (line_own line p).texts ≡ eqb (refused_of (read_on line p).content (read_on line p).numbers p.replay.state (counts_of p)) 1
unfolding line_own own_whole opening fault_told left_of item_told
own-no line p long sound good call =
    let read = read_on line p in
    let a = begun-alike p.replay.names (counts_of p) long in
    let h = (head_of p.replay).counts in
    rw (begun-fault p.replay.names (counts_of p) long read.content ∙ good, call-item read.content call)
    (call-no read.numbers p.replay.state h sound read.content call
    ∙ ap (λ (n : ℕ). eqb n 1) (refused-same read.content read.numbers p.replay.state h (counts_of p) (sym (a.each 10 refl)) (sym (a.each 11 refl))))

-- The refusals of a line are 1 where it was a call that is answered `no`, and 0 else.
pub own-refused : (line : List ℕ) (p : Page) → InOrder p → in_own 4 line p ≡ cond (answered_no line p) 1 0
unfolding in_own answered_no was_call is_bad
own-refused line p o =
    let read = read_on line p in
    let count = refused_of read.content read.numbers p.replay.state (counts_of p) in
    by-test (is_fault read.content (counts_of p)) (λ bad. rw bad)
    (λ good.
    by-test (is_call_line read.content)
    (λ call.
    rw (good, call, own-no line p o.long o.sound good call)
    (omega (arith, zero-or-one count (refused-most read.content read.numbers p.replay.state (counts_of p)))))
    (λ other. rw (good, other)))

-- "R those of them answered `no`": count 4 of a text is the number of its lines that were calls and whose answers begin with `no`.
pub text-answered-no : (path : List ℕ) (check : Bool) (text : List ℕ)
    → get_or (counts_of (last_page path check text)) 4 0 ≡ min (lines_that answered_no (text_lines text) (first_page path check)) 18446744073709551615
text-answered-no =
    text-counts 4 (omega arith) (omega arith) (λ line p. cond (answered_no line p) 1 0)
    (λ line p o. own_alone 4 refl refl refl line p ∙ own-refused line p o)
