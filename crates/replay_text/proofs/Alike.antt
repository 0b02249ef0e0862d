-- Two tellings of the same line go together by any relation of the counts that the counting of an answer keeps. Assumes nothing.
use Prim.Native.Nat.{ℕ, zero, suc, ◌+◌}
use mathlib.Core.Path.{◌≡◌, refl}
use mathlib.Core.Bool.{Bool, true, false, cond, true≢false}
use mathlib.Core.List.{List, [], ◌∷◌, ◌++◌}
use native.Mathlib.Omega.{arith}
use lib.Dec.{eqb, ltb}
use lib.IntN.{ℤ}
use lib.ListN.{length, get_or, set, take, drop}
use Rattle.unit.proofs.Cases.{by-test}
use Rattle.device.specs.declared.Model.{Model}
use Rattle.device.specs.declared.Answer.{Answer}
use Rattle.device.specs.declared.Answer.TheVariants.{Refused, Accepted, Ticked, Stretched, Good, Failed}
use Rattle.device.specs.Model.{is_sound}
use Rattle.device.specs.Call.{Call}
use Rattle.device.specs.Reply.{reply}
use Rattle.listing.specs.Listing.{lines, last_above}
use Rattle.setup_frames.specs.Frames.{frames}
use Rattle.numeral.specs.Place.{put_each}
use Rattle.line.specs.declared.Content.{Content}
use Rattle.numeral.specs.Ascii.{ascii}
use Rattle.wording.specs.Wording.{Texts, line_feed, counted, refused, listing_head, frame_lines}
use Rattle.item_state.specs.Log.{Log, added, refusals, call_counted}
use Rattle.item_calls.specs.Lines.{WithFlash, item_counts, start_moment, moved, moved_by, call_line, timed_line, beside, item_line, bus_line, set_line, transacted, single_line, tick_line, stretch_line, flight_line, temperature_line, told}
use Rattle.item_questions.specs.Answers.{question_line}
use Rattle.item_analysis.specs.Lines.{degrees_of, record_words, analysis_line, probe_line, record_line}
use Rattle.item_checks.specs.Open.{is_item}
use Rattle.item_checks.specs.Fault.{is_fault, left_of}
use Rattle.item_checks.specs.Close.{line_words, begins_with, refusal_counted, is_announced, is_not_bad}
use Rattle.answer_text.specs.Texts.{Told, silent, behind, asked, answered, told_of_transaction, told_of_bus, told_of_set, told_of_single, told_of_tick, told_of_stretch, told_of_delivery, call_told, told_of_expect, told_of_frames, question_told, told_of_probe, told_in_degrees, told_of_degrees, told_of_record, told_of_listing, told_of_place, told_of_quietest, analysis_told}
use Rattle.answer_text.specs.Line.{line_left, told_of_kept, line_told}
use Rattle.session.specs.Line.{State, with_log, line_done}
use Rattle.line_text.specs.Text.{fault_told, item_told, bare, judged_counts, closed_counts}
use Rattle.replay_text.specs.Replay.{tick_lines, ticks_told, ticks_done, told_by, done_by, opening, own_whole, done_whole}
use Rattle.replay_text.proofs.Reading.{is_ticks}
use Rattle.replay_text.proofs.Numbers.{used_of, SameNumbers, numbers-taken}
use Rattle.refusal.specs.declared.Refusal.{Refusal}
use Rattle.std.specs.Prelude.{Result, Ok, Err}

-- The places in which an answer counts: 3 the calls, 4 the refusals, 5 those that are not announced, 7 the expectations, 8 those that
-- differ, 9 the moment, 10 and 11 what the record and the probe table hold, 15 the end of the item's name.
abbrev pub is_counted : ℕ → Bool
is_counted n =
    cond (eqb n 3) true (cond (eqb n 4) true (cond (eqb n 5) true (cond (eqb n 7) true (cond (eqb n 8) true
    (cond (eqb n 9) true (cond (eqb n 10) true (cond (eqb n 11) true (cond (eqb n 15) true false))))))))

-- The same texts, and counts that go together.
abbrev pub SameTold : (List ℕ → List ℕ → Type 0) → Told → Told → Type 0
SameTold R t t' = (t.texts ≡ t'.texts) × R t.counts t'.counts

-- The same model, user flash, record and probe table.
abbrev pub SameState : State → State → Type 0
SameState s s' = (s.model ≡ s'.model) × (s.flash ≡ s'.flash) × (s.differences ≡ s'.differences) × (s.probes ≡ s'.probes)

-- ---- the numbers of a delivery

take_none : (n : ℕ) → take {A = ℕ} n [] ≡ []
take_none zero = refl
take_none (suc n) = refl

take_behind : (up down : ℕ) (l : List ℕ) → take down (drop up l) ≡ drop up (take (up + down) l)
take_behind zero down l = let e : 0 + down ≡ down = omega arith in rw e
take_behind (suc up) down [] = rw (take_none down, take_none (suc up + down))
take_behind (suc up) down (x ∷ xs) = let e : suc up + down ≡ suc (up + down) = omega arith in rw e (take_behind up down xs)

flight-taken : (up down : ℕ) (numbers numbers' : List ℕ) → SameNumbers (Content.Flight up down) numbers numbers'
    → (take up numbers ≡ take up numbers') × (take down (drop up numbers) ≡ take down (drop up numbers'))
unfolding used_of
flight-taken up down numbers numbers' alike =
    let all : take (up + down) numbers ≡ take (up + down) numbers' = numbers-taken (Content.Flight up down) numbers numbers' alike (up + down) (omega arith) in
    (numbers-taken (Content.Flight up down) numbers numbers' alike up (omega arith), rw (take_behind up down numbers, take_behind up down numbers', all))

-- ---- the model after a line that is none of ticks

model-same : (content : Content) → is_ticks content ≡ false → (numbers numbers' : List ℕ) → SameNumbers content numbers numbers'
    → (m : Model) (flash : List ℕ) (l l' : Log)
    → let s : WithFlash = record { model = m; flash = flash; log = l } in
    let s' : WithFlash = record { model = m; flash = flash; log = l' } in
    ((call_line content numbers s).model ≡ (call_line content numbers' s').model) × ((call_line content numbers s).flash ≡ (call_line content numbers' s').flash)
unfolding call_line timed_line beside item_line bus_line set_line transacted stretch_line flight_line temperature_line told is_ticks used_of
model-same Content.Nothing other numbers numbers' alike m flash l l' = (refl, refl)
model-same Content.TooLong other numbers numbers' alike m flash l l' = (refl, refl)
model-same Content.UnknownWord other numbers numbers' alike m flash l l' = (refl, refl)
model-same Content.BadNumber other numbers numbers' alike m flash l l' = (refl, refl)
model-same Content.WrongCount other numbers numbers' alike m flash l l' = (refl, refl)
model-same Content.Item other numbers numbers' alike m flash l l' = (refl, refl)
model-same (Content.Bus n) other numbers numbers' alike m flash l l' =
    rw (numbers-taken (Content.Bus n) numbers numbers' alike n (omega arith)) (refl, refl)
model-same (Content.BusOut size n) other numbers numbers' alike m flash l l' =
    rw (numbers-taken (Content.BusOut size n) numbers numbers' alike n (omega arith)) (refl, refl)
model-same (Content.Tick n) other numbers numbers' alike m flash l l' = absurd (true≢false other)
model-same (Content.Flight up down) other numbers numbers' alike m flash l l' =
    let e = flight-taken up down numbers numbers' alike in rw (e.0, e.1) (refl, refl)
model-same (Content.Temperature n) other numbers numbers' alike m flash l l' =
    rw (numbers-taken (Content.Temperature n) numbers numbers' alike n (omega arith)) (refl, refl)
model-same Content.Int other numbers numbers' alike m flash l l' = (refl, refl)
model-same Content.Awaited other numbers numbers' alike m flash l l' = (refl, refl)
model-same Content.Regs other numbers numbers' alike m flash l l' = (refl, refl)
model-same (Content.Expect a n) other numbers numbers' alike m flash l l' = (refl, refl)
model-same Content.Show other numbers numbers' alike m flash l l' = (refl, refl)
model-same (Content.Set a n) other numbers numbers' alike m flash l l' =
    rw (numbers-taken (Content.Set a n) numbers numbers' alike n (omega arith)) (refl, refl)
model-same (Content.At t) other numbers numbers' alike m flash l l' = absurd (true≢false other)
model-same (Content.Stretch n) other numbers numbers' alike m flash l l' = (refl, refl)
model-same Content.Frames other numbers numbers' alike m flash l l' = (refl, refl)
model-same (Content.Probe n) other numbers numbers' alike m flash l l' = (refl, refl)
model-same Content.Degrees other numbers numbers' alike m flash l l' = (refl, refl)
model-same (Content.Record n) other numbers numbers' alike m flash l l' = (refl, refl)
model-same (Content.Listing old first) other numbers numbers' alike m flash l l' = (refl, refl)
model-same (Content.Quietest n) other numbers numbers' alike m flash l l' = (refl, refl)

-- ---- counts that go together

module _ (R : List ℕ → List ℕ → Type 0)
    (same : (n : ℕ) → is_counted n ≡ true → (c c' : List ℕ) → R c c' → get_or c n 0 ≡ get_or c' n 0)
    (kept : (n v : ℕ) → is_counted n ≡ true → (c c' : List ℕ) → R c c' → R (set c n v) (set c' n v)) where
  added-same : (n k : ℕ) → is_counted n ≡ true → (c c' : List ℕ) → R c c' → R (added c n k) (added c' n k)
  unfolding added
  added-same n k here c c' r = rw (same n here c c' r) (kept n _ here c c' r)

  call_same : (refused : ℕ) (c c' : List ℕ) → R c c' → R (call_counted refused c) (call_counted refused c')
  unfolding call_counted
  call_same refused c c' r = added-same 4 refused refl (added c 3 1) (added c' 3 1) (added-same 3 1 refl c c' r)

  start-same : (a : Answer) (c c' : List ℕ) → R c c' → R (start_moment a c) (start_moment a c')
  unfolding start_moment
  start-same (Refused why) c c' r = r
  start-same (Accepted true temperature) c c' r = kept 9 0 refl c c' r
  start-same (Accepted false true) c c' r = kept 9 0 refl c c' r
  start-same (Accepted false false) c c' r = r
  start-same (Ticked flight temperature) c c' r = r
  start-same (Stretched flight temperature) c c' r = r
  start-same Good c c' r = r
  start-same Failed c c' r = r

  moved-by-same : (a : Answer) (n : ℕ) (c c' : List ℕ) → R c c' → R (moved_by a n c) (moved_by a n c')
  unfolding moved_by moved
  moved-by-same a n c c' r = go (eqb (refusals a) 0)
    where
      go : (t : Bool) → R (cond t (added c 9 n) c) (cond t (added c' 9 n) c')
      go true = added-same 9 n refl c c' r
      go false = r

  either_same : (b : Bool) (x y x' y' : Told) → SameTold R x x' → SameTold R y y' → SameTold R (cond b x y) (cond b x' y')
  either_same true x y x' y' one other = one
  either_same false x y x' y' one other = other

  behind-same : (t t' : Told) (f f' : List ℕ → Told) → SameTold R t t' → ((c c' : List ℕ) → R c c' → SameTold R (f c) (f' c'))
      → SameTold R (behind t f) (behind t' f')
  behind-same t t' f f' first next =
      let later = next t.counts t'.counts first.1 in (rw (first.0, later.0) refl, later.1)

  -- ---- lines that move the model

  transaction-same : (call : Call) (texts : Answer → List ℕ → Texts) (m : Model) (c c' : List ℕ) → R c c'
      → SameTold R (told_of_transaction call texts m c) (told_of_transaction call texts m c')
  unfolding told_of_transaction
  transaction-same call texts m c c' r = (
    refl,
    start-same (reply m call).answer (call_counted (refusals (reply m call).answer) c) (call_counted (refusals (reply m call).answer) c')
        (call_same (refusals (reply m call).answer) c c' r),
  )

  call-told : (content : Content) → is_ticks content ≡ false → (numbers numbers' : List ℕ) → SameNumbers content numbers numbers'
      → (m : Model) (flash : List ℕ) (c c' : List ℕ) → R c c'
      → SameTold R (call_told content numbers record { model = m; flash = flash; log = record { counts = c; answers = [] } })
      (call_told content numbers' record { model = m; flash = flash; log = record { counts = c'; answers = [] } })
  unfolding call_told item_counts told_of_bus told_of_set told_of_stretch told_of_delivery is_ticks used_of
  call-told Content.Nothing other numbers numbers' alike m flash c c' r = (refl, r)
  call-told Content.TooLong other numbers numbers' alike m flash c c' r = (refl, r)
  call-told Content.UnknownWord other numbers numbers' alike m flash c c' r = (refl, r)
  call-told Content.BadNumber other numbers numbers' alike m flash c c' r = (refl, r)
  call-told Content.WrongCount other numbers numbers' alike m flash c c' r = (refl, r)
  call-told Content.Item other numbers numbers' alike m flash c c' r =
      (refl, kept 11 0 refl (set (set c 9 0) 10 0) (set (set c' 9 0) 10 0) (kept 10 0 refl (set c 9 0) (set c' 9 0) (kept 9 0 refl c c' r)))
  call-told (Content.Bus n) other numbers numbers' alike m flash c c' r =
      rw (numbers-taken (Content.Bus n) numbers numbers' alike n (omega arith)) (transaction-same _ _ m c c' r)
  call-told (Content.BusOut size n) other numbers numbers' alike m flash c c' r =
      rw (numbers-taken (Content.BusOut size n) numbers numbers' alike n (omega arith)) (transaction-same _ _ m c c' r)
  call-told (Content.Tick n) other numbers numbers' alike m flash c c' r = absurd (true≢false other)
  call-told (Content.Flight up down) other numbers numbers' alike m flash c c' r =
      let e = flight-taken up down numbers numbers' alike in rw (e.0, e.1) (refl, call_same _ c c' r)
  call-told (Content.Temperature n) other numbers numbers' alike m flash c c' r =
      rw (numbers-taken (Content.Temperature n) numbers numbers' alike n (omega arith)) (refl, call_same _ c c' r)
  call-told Content.Int other numbers numbers' alike m flash c c' r = (refl, r)
  call-told Content.Awaited other numbers numbers' alike m flash c c' r = (refl, r)
  call-told Content.Regs other numbers numbers' alike m flash c c' r = (refl, r)
  call-told (Content.Expect a n) other numbers numbers' alike m flash c c' r = (refl, r)
  call-told Content.Show other numbers numbers' alike m flash c c' r = (refl, r)
  call-told (Content.Set a n) other numbers numbers' alike m flash c c' r =
      rw (numbers-taken (Content.Set a n) numbers numbers' alike n (omega arith)) (transaction-same _ _ m c c' r)
  call-told (Content.At t) other numbers numbers' alike m flash c c' r = absurd (true≢false other)
  call-told (Content.Stretch n) other numbers numbers' alike m flash c c' r =
      (refl, call_same _ (moved_by (reply m (Call.stretch n)).answer n c) (moved_by (reply m (Call.stretch n)).answer n c') (moved-by-same (reply m (Call.stretch n)).answer n c c' r))
  call-told Content.Frames other numbers numbers' alike m flash c c' r = (refl, r)
  call-told (Content.Probe n) other numbers numbers' alike m flash c c' r = (refl, r)
  call-told Content.Degrees other numbers numbers' alike m flash c c' r = (refl, r)
  call-told (Content.Record n) other numbers numbers' alike m flash c c' r = (refl, r)
  call-told (Content.Listing old first) other numbers numbers' alike m flash c c' r = (refl, r)
  call-told (Content.Quietest n) other numbers numbers' alike m flash c c' r = (refl, r)

  -- ---- lines that ask

  frames-same : (m : Model) (c c' : List ℕ) → R c c' → SameTold R (told_of_frames m c) (told_of_frames m c')
  unfolding told_of_frames
  frames-same m c c' r =
      let some = ascii "frames " ∷ (counted (length (frames m.setup)) line_feed ++ frame_lines (frames m.setup)) in
      let none = refused (ascii "frames") 0 in
      either_same (is_sound m) (answered 0 some c) (answered 1 none c) (answered 0 some c') (answered 1 none c') (refl, call_same 0 c c' r) (refl, call_same 1 c c' r)

  question-told : (content : Content) (numbers numbers' : List ℕ) → SameNumbers content numbers numbers' → (m : Model) (c c' : List ℕ) → R c c'
      → SameTold R (question_told content numbers m c) (question_told content numbers' m c')
  unfolding question_told told_of_expect used_of
  question-told Content.Nothing numbers numbers' alike m c c' r = (refl, r)
  question-told Content.TooLong numbers numbers' alike m c c' r = (refl, r)
  question-told Content.UnknownWord numbers numbers' alike m c c' r = (refl, r)
  question-told Content.BadNumber numbers numbers' alike m c c' r = (refl, r)
  question-told Content.WrongCount numbers numbers' alike m c c' r = (refl, r)
  question-told Content.Item numbers numbers' alike m c c' r = (refl, r)
  question-told (Content.Bus n) numbers numbers' alike m c c' r = (refl, r)
  question-told (Content.BusOut size n) numbers numbers' alike m c c' r = (refl, r)
  question-told (Content.Tick n) numbers numbers' alike m c c' r = (refl, r)
  question-told (Content.Flight up down) numbers numbers' alike m c c' r = (refl, r)
  question-told (Content.Temperature n) numbers numbers' alike m c c' r = (refl, r)
  question-told Content.Int numbers numbers' alike m c c' r = (refl, r)
  question-told Content.Awaited numbers numbers' alike m c c' r = (refl, r)
  question-told Content.Regs numbers numbers' alike m c c' r = (refl, r)
  question-told (Content.Expect a n) numbers numbers' alike m c c' r =
      rw (numbers-taken (Content.Expect a n) numbers numbers' alike n (omega arith)) (refl, added-same 8 _ refl _ _ (added-same 7 _ refl c c' r))
  question-told Content.Show numbers numbers' alike m c c' r = (refl, r)
  question-told (Content.Set a n) numbers numbers' alike m c c' r = (refl, r)
  question-told (Content.At t) numbers numbers' alike m c c' r = (refl, r)
  question-told (Content.Stretch n) numbers numbers' alike m c c' r = (refl, r)
  question-told Content.Frames numbers numbers' alike m c c' r = frames-same m c c' r
  question-told (Content.Probe n) numbers numbers' alike m c c' r = (refl, r)
  question-told Content.Degrees numbers numbers' alike m c c' r = (refl, r)
  question-told (Content.Record n) numbers numbers' alike m c c' r = (refl, r)
  question-told (Content.Listing old first) numbers numbers' alike m c c' r = (refl, r)
  question-told (Content.Quietest n) numbers numbers' alike m c c' r = (refl, r)

  -- ---- lines on what an item keeps beside its model

  in-degrees-same : (d : Result ℕ Refusal) (c c' : List ℕ) → R c c' → SameTold R (told_in_degrees d c) (told_in_degrees d c')
  unfolding told_in_degrees
  in-degrees-same (Ok n) c c' r = (refl, call_same 0 c c' r)
  in-degrees-same (Err why) c c' r = (refl, call_same 1 c c' r)

  degrees-same : (numbers numbers' : List ℕ) → SameNumbers Content.Degrees numbers numbers' → (probes c c' : List ℕ) → R c c'
      → SameTold R (told_of_degrees numbers probes c) (told_of_degrees numbers' probes c')
  unfolding told_of_degrees used_of
  degrees-same numbers numbers' alike probes c c' r =
      rw (alike.long, alike.each 0 (omega arith), alike.each 1 (omega arith), same 11 refl c c' r)
      (let d = degrees_of (take (get_or c' 11 0) probes) (get_or numbers' 0 0) (get_or numbers' 1 0) in
      either_same (ltb (length numbers') 2) (silent c) (told_in_degrees d c) (silent c') (told_in_degrees d c') (refl, r) (in-degrees-same d c c' r))

  listing-same : (d first : ℕ) (values : List ℤ) (used : ℕ) (c c' : List ℕ) → R c c'
      → SameTold R (told_of_listing d first values used c) (told_of_listing d first values used c')
  unfolding told_of_listing
  listing-same d first values used c c' r =
      let none = refused (ascii "listing") 20 in
      let some = listing_head used ++ (lines d first values ∷ []) in
      either_same (last_above d first (length values)) (answered 1 none c) (answered 0 some c) (answered 1 none c') (answered 0 some c')
      (refl, call_same 1 c c' r) (refl, call_same 0 c c' r)

  place_same : (q : Result ℕ Refusal) (values : List ℤ) (width : ℕ) (c c' : List ℕ) → R c c'
      → SameTold R (told_of_place q values width c) (told_of_place q values width c')
  unfolding told_of_place
  place_same (Ok start) values width c c' r = (refl, call_same 0 c c' r)
  place_same (Err why) values width c c' r = (refl, call_same 1 c c' r)

  record-words : (m : Model) (n : ℕ) (numbers numbers' : List ℕ) → take n numbers ≡ take n numbers'
      → record_words m numbers n ≡ record_words m numbers' n
  unfolding record_words
  record-words m n numbers numbers' e = rw e

  kept-told : (content : Content) (numbers numbers' : List ℕ) → SameNumbers content numbers numbers' → (m : Model) (differences : List ℤ)
      (probes c c' : List ℕ) → R c c'
      → SameTold R (told_of_kept content numbers m differences probes c) (told_of_kept content numbers' m differences probes c')
  unfolding analysis_told told_of_probe told_of_record told_of_quietest used_of
  kept-told Content.Nothing numbers numbers' alike m differences probes c c' r = (refl, r)
  kept-told Content.TooLong numbers numbers' alike m differences probes c c' r = (refl, r)
  kept-told Content.UnknownWord numbers numbers' alike m differences probes c c' r = (refl, r)
  kept-told Content.BadNumber numbers numbers' alike m differences probes c c' r = (refl, r)
  kept-told Content.WrongCount numbers numbers' alike m differences probes c c' r = (refl, r)
  kept-told Content.Item numbers numbers' alike m differences probes c c' r = (refl, r)
  kept-told (Content.Bus n) numbers numbers' alike m differences probes c c' r = (refl, r)
  kept-told (Content.BusOut size n) numbers numbers' alike m differences probes c c' r = (refl, r)
  kept-told (Content.Tick n) numbers numbers' alike m differences probes c c' r = (refl, r)
  kept-told (Content.Flight up down) numbers numbers' alike m differences probes c c' r = (refl, r)
  kept-told (Content.Temperature n) numbers numbers' alike m differences probes c c' r = (refl, r)
  kept-told Content.Int numbers numbers' alike m differences probes c c' r = (refl, r)
  kept-told Content.Awaited numbers numbers' alike m differences probes c c' r = (refl, r)
  kept-told Content.Regs numbers numbers' alike m differences probes c c' r = (refl, r)
  kept-told (Content.Expect a n) numbers numbers' alike m differences probes c c' r = (refl, r)
  kept-told Content.Show numbers numbers' alike m differences probes c c' r = (refl, r)
  kept-told (Content.Set a n) numbers numbers' alike m differences probes c c' r = (refl, r)
  kept-told (Content.At t) numbers numbers' alike m differences probes c c' r = (refl, r)
  kept-told (Content.Stretch n) numbers numbers' alike m differences probes c c' r = (refl, r)
  kept-told Content.Frames numbers numbers' alike m differences probes c c' r = (refl, r)
  kept-told (Content.Probe n) numbers numbers' alike m differences probes c c' r =
      rw (numbers-taken (Content.Probe n) numbers numbers' alike n (omega arith), same 11 refl c c' r) (refl, kept 11 _ refl c c' r)
  kept-told Content.Degrees numbers numbers' alike m differences probes c c' r = degrees-same numbers numbers' alike probes c c' r
  kept-told (Content.Record n) numbers numbers' alike m differences probes c c' r =
      rw (record-words m n numbers numbers' (numbers-taken (Content.Record n) numbers numbers' alike n (omega arith)), same 10 refl c c' r) (refl, kept 10 _ refl c c' r)
  kept-told (Content.Listing old first) numbers numbers' alike m differences probes c c' r =
      rw (same 10 refl c c' r) (listing-same _ first _ _ c c' r)
  kept-told (Content.Quietest n) numbers numbers' alike m differences probes c c' r = rw (same 10 refl c c' r) (place_same _ _ n c c' r)

  -- ---- any line that is none of ticks

  line-told : (content : Content) → is_ticks content ≡ false → (numbers numbers' : List ℕ) → SameNumbers content numbers numbers'
      → (s : State) (c c' : List ℕ) → R c c'
      → SameTold R (line_told content numbers (bare s c) s.differences s.probes) (line_told content numbers' (bare s c') s.differences s.probes)
  unfolding line_told
  line-told content other numbers numbers' alike s c c' r =
      let m = (call_line content numbers' (bare s c')).model in
      rw (model-same content other numbers numbers' alike s.model s.flash (bare s c).log (bare s c').log).0
      (behind-same (behind (call_told content numbers (bare s c)) (question_told content numbers m))
      (behind (call_told content numbers' (bare s c')) (question_told content numbers' m)) (told_of_kept content numbers m s.differences s.probes)
      (told_of_kept content numbers' m s.differences s.probes)
      (behind-same (call_told content numbers (bare s c)) (call_told content numbers' (bare s c')) (question_told content numbers m)
      (question_told content numbers' m) (call-told content other numbers numbers' alike s.model s.flash c c' r)
      (question-told content numbers numbers' alike m))
      (kept-told content numbers numbers' alike m s.differences s.probes))

  -- the record and the probe table after it
  left-same : (content : Content) → is_ticks content ≡ false → (numbers numbers' : List ℕ) → SameNumbers content numbers numbers'
      → (s : State) (c c' : List ℕ) → R c c'
      → ((line_left content numbers (bare s c) s.differences s.probes).differences ≡ (line_left content numbers' (bare s c') s.differences s.probes).differences)
      × ((line_left content numbers (bare s c) s.differences s.probes).probes ≡ (line_left content numbers' (bare s c') s.differences s.probes).probes)
  unfolding line_left call_line timed_line beside question_line analysis_line probe_line record_line is_ticks used_of
  left-same Content.Nothing other numbers numbers' alike s c c' r = (refl, refl)
  left-same Content.TooLong other numbers numbers' alike s c c' r = (refl, refl)
  left-same Content.UnknownWord other numbers numbers' alike s c c' r = (refl, refl)
  left-same Content.BadNumber other numbers numbers' alike s c c' r = (refl, refl)
  left-same Content.WrongCount other numbers numbers' alike s c c' r = (refl, refl)
  left-same Content.Item other numbers numbers' alike s c c' r = (refl, refl)
  left-same (Content.Bus n) other numbers numbers' alike s c c' r = (refl, refl)
  left-same (Content.BusOut size n) other numbers numbers' alike s c c' r = (refl, refl)
  left-same (Content.Tick n) other numbers numbers' alike s c c' r = absurd (true≢false other)
  left-same (Content.Flight up down) other numbers numbers' alike s c c' r = (refl, refl)
  left-same (Content.Temperature n) other numbers numbers' alike s c c' r = (refl, refl)
  left-same Content.Int other numbers numbers' alike s c c' r = (refl, refl)
  left-same Content.Awaited other numbers numbers' alike s c c' r = (refl, refl)
  left-same Content.Regs other numbers numbers' alike s c c' r = (refl, refl)
  left-same (Content.Expect a n) other numbers numbers' alike s c c' r = (refl, refl)
  left-same Content.Show other numbers numbers' alike s c c' r = (refl, refl)
  left-same (Content.Set a n) other numbers numbers' alike s c c' r = (refl, refl)
  left-same (Content.At t) other numbers numbers' alike s c c' r = absurd (true≢false other)
  left-same (Content.Stretch n) other numbers numbers' alike s c c' r = (refl, refl)
  left-same Content.Frames other numbers numbers' alike s c c' r = (refl, refl)
  left-same (Content.Probe n) other numbers numbers' alike s c c' r =
      (refl, rw (numbers-taken (Content.Probe n) numbers numbers' alike n (omega arith), same 11 refl c c' r))
  left-same Content.Degrees other numbers numbers' alike s c c' r = (refl, refl)
  left-same (Content.Record n) other numbers numbers' alike s c c' r =
      (rw (record-words s.model n numbers numbers' (numbers-taken (Content.Record n) numbers numbers' alike n (omega arith)), same 10 refl c c' r), refl)
  left-same (Content.Listing old first) other numbers numbers' alike s c c' r = (refl, refl)
  left-same (Content.Quietest n) other numbers numbers' alike s c c' r = (refl, refl)

  abbrev holding : State → List ℕ → State
  holding s c = with_log s record { counts = c; answers = [] }

  line-done : (content : Content) → is_ticks content ≡ false → (numbers numbers' : List ℕ) → SameNumbers content numbers numbers'
      → (s : State) (c c' : List ℕ) → R c c' → SameState (line_done content numbers (holding s c)) (line_done content numbers' (holding s c'))
  unfolding line_done
  line-done content other numbers numbers' alike s c c' r =
      let moved = model-same content other numbers numbers' alike s.model s.flash (bare s c).log (bare s c').log in
      let left = left-same content other numbers numbers' alike s c c' r in
      (moved.0, moved.1, left.0, left.1)

  -- ---- lines of ticks

  single-told : (n : ℕ) → eqb n 1 ≡ true → (numbers numbers' : List ℕ) (s : State) (c c' : List ℕ) → R c c'
      → SameTold R (line_told (Content.Tick n) numbers (bare s c) s.differences s.probes)
      (line_told (Content.Tick n) numbers' (bare s c') s.differences s.probes)
  unfolding line_told call_told told_of_tick told_of_single question_told analysis_told moved
  single-told n one numbers numbers' s c c' r = rw one (refl, call_same _ (added c 9 1) (added c' 9 1) (added-same 9 1 refl c c' r))

  single-done : (n : ℕ) → eqb n 1 ≡ true → (numbers numbers' : List ℕ) (s : State) (c c' : List ℕ)
      → SameState (line_done (Content.Tick n) numbers (holding s c)) (line_done (Content.Tick n) numbers' (holding s c'))
  unfolding line_done line_left call_line beside tick_line single_line told question_line analysis_line
  single-done n one numbers numbers' s c c' = rw one (refl, refl, refl, refl)

  tick-told : (n : ℕ) (numbers numbers' : List ℕ) (s : State) (c c' : List ℕ) → R c c'
      → SameTold R (told_by (tick_lines (Content.Tick n) c) (Content.Tick n) numbers s c) (told_by (tick_lines (Content.Tick n) c') (Content.Tick n) numbers' s c')
  unfolding told_by tick_lines ticks_told moved
  tick-told n numbers numbers' s c c' r =
      by-test (eqb n 1) (λ one. rw one (single-told n one numbers numbers' s c c' r))
      (λ more. rw more (refl, call_same 0 (added c 9 n) (added c' 9 n) (added-same 9 n refl c c' r)))

  tick-done : (n : ℕ) (numbers numbers' : List ℕ) (s : State) (c c' : List ℕ)
      → SameState (done_by (tick_lines (Content.Tick n) c) (Content.Tick n) numbers (holding s c))
      (done_by (tick_lines (Content.Tick n) c') (Content.Tick n) numbers' (holding s c'))
  unfolding done_by tick_lines ticks_done
  tick-done n numbers numbers' s c c' =
      by-test (eqb n 1) (λ one. rw one (single-done n one numbers numbers' s c c')) (λ more. rw more (refl, refl, refl, refl))

  at_told : (t : ℕ) (numbers numbers' : List ℕ) (s : State) (c c' : List ℕ) → R c c'
      → SameTold R (told_by (tick_lines (Content.At t) c) (Content.At t) numbers s c) (told_by (tick_lines (Content.At t) c') (Content.At t) numbers' s c')
  unfolding told_by tick_lines ticks_told
  at_told t numbers numbers' s c c' r =
      rw (same 9 refl c c' r) (refl, call_same 0 (set c 9 t) (set c' 9 t) (kept 9 t refl c c' r))

  at_done : (t : ℕ) (numbers numbers' : List ℕ) (s : State) (c c' : List ℕ) → R c c'
      → SameState (done_by (tick_lines (Content.At t) c) (Content.At t) numbers (holding s c))
      (done_by (tick_lines (Content.At t) c') (Content.At t) numbers' (holding s c'))
  unfolding done_by tick_lines ticks_done
  at_done t numbers numbers' s c c' r = rw (same 9 refl c c' r) (refl, refl, refl, refl)

  -- ---- any line

  by-told : (content : Content) (numbers numbers' : List ℕ) → SameNumbers content numbers numbers' → (s : State) (c c' : List ℕ) → R c c'
      → SameTold R (told_by (tick_lines content c) content numbers s c) (told_by (tick_lines content c') content numbers' s c')
  unfolding told_by tick_lines is_ticks
  by-told Content.Nothing numbers numbers' alike s c c' r = line-told Content.Nothing refl numbers numbers' alike s c c' r
  by-told Content.TooLong numbers numbers' alike s c c' r = line-told Content.TooLong refl numbers numbers' alike s c c' r
  by-told Content.UnknownWord numbers numbers' alike s c c' r = line-told Content.UnknownWord refl numbers numbers' alike s c c' r
  by-told Content.BadNumber numbers numbers' alike s c c' r = line-told Content.BadNumber refl numbers numbers' alike s c c' r
  by-told Content.WrongCount numbers numbers' alike s c c' r = line-told Content.WrongCount refl numbers numbers' alike s c c' r
  by-told Content.Item numbers numbers' alike s c c' r = line-told Content.Item refl numbers numbers' alike s c c' r
  by-told (Content.Bus n) numbers numbers' alike s c c' r = line-told (Content.Bus n) refl numbers numbers' alike s c c' r
  by-told (Content.BusOut size n) numbers numbers' alike s c c' r = line-told (Content.BusOut size n) refl numbers numbers' alike s c c' r
  by-told (Content.Tick n) numbers numbers' alike s c c' r = tick-told n numbers numbers' s c c' r
  by-told (Content.Flight up down) numbers numbers' alike s c c' r = line-told (Content.Flight up down) refl numbers numbers' alike s c c' r
  by-told (Content.Temperature n) numbers numbers' alike s c c' r = line-told (Content.Temperature n) refl numbers numbers' alike s c c' r
  by-told Content.Int numbers numbers' alike s c c' r = line-told Content.Int refl numbers numbers' alike s c c' r
  by-told Content.Awaited numbers numbers' alike s c c' r = line-told Content.Awaited refl numbers numbers' alike s c c' r
  by-told Content.Regs numbers numbers' alike s c c' r = line-told Content.Regs refl numbers numbers' alike s c c' r
  by-told (Content.Expect a n) numbers numbers' alike s c c' r = line-told (Content.Expect a n) refl numbers numbers' alike s c c' r
  by-told Content.Show numbers numbers' alike s c c' r = line-told Content.Show refl numbers numbers' alike s c c' r
  by-told (Content.Set a n) numbers numbers' alike s c c' r = line-told (Content.Set a n) refl numbers numbers' alike s c c' r
  by-told (Content.At t) numbers numbers' alike s c c' r = at_told t numbers numbers' s c c' r
  by-told (Content.Stretch n) numbers numbers' alike s c c' r = line-told (Content.Stretch n) refl numbers numbers' alike s c c' r
  by-told Content.Frames numbers numbers' alike s c c' r = line-told Content.Frames refl numbers numbers' alike s c c' r
  by-told (Content.Probe n) numbers numbers' alike s c c' r = line-told (Content.Probe n) refl numbers numbers' alike s c c' r
  by-told Content.Degrees numbers numbers' alike s c c' r = line-told Content.Degrees refl numbers numbers' alike s c c' r
  by-told (Content.Record n) numbers numbers' alike s c c' r = line-told (Content.Record n) refl numbers numbers' alike s c c' r
  by-told (Content.Listing old first) numbers numbers' alike s c c' r = line-told (Content.Listing old first) refl numbers numbers' alike s c c' r
  by-told (Content.Quietest n) numbers numbers' alike s c c' r = line-told (Content.Quietest n) refl numbers numbers' alike s c c' r

  by-done : (content : Content) (numbers numbers' : List ℕ) → SameNumbers content numbers numbers' → (s : State) (c c' : List ℕ) → R c c'
      → SameState (done_by (tick_lines content c) content numbers (holding s c)) (done_by (tick_lines content c') content numbers' (holding s c'))
  unfolding done_by tick_lines is_ticks
  by-done Content.Nothing numbers numbers' alike s c c' r = line-done Content.Nothing refl numbers numbers' alike s c c' r
  by-done Content.TooLong numbers numbers' alike s c c' r = line-done Content.TooLong refl numbers numbers' alike s c c' r
  by-done Content.UnknownWord numbers numbers' alike s c c' r = line-done Content.UnknownWord refl numbers numbers' alike s c c' r
  by-done Content.BadNumber numbers numbers' alike s c c' r = line-done Content.BadNumber refl numbers numbers' alike s c c' r
  by-done Content.WrongCount numbers numbers' alike s c c' r = line-done Content.WrongCount refl numbers numbers' alike s c c' r
  by-done Content.Item numbers numbers' alike s c c' r = line-done Content.Item refl numbers numbers' alike s c c' r
  by-done (Content.Bus n) numbers numbers' alike s c c' r = line-done (Content.Bus n) refl numbers numbers' alike s c c' r
  by-done (Content.BusOut size n) numbers numbers' alike s c c' r = line-done (Content.BusOut size n) refl numbers numbers' alike s c c' r
  by-done (Content.Tick n) numbers numbers' alike s c c' r = tick-done n numbers numbers' s c c'
  by-done (Content.Flight up down) numbers numbers' alike s c c' r = line-done (Content.Flight up down) refl numbers numbers' alike s c c' r
  by-done (Content.Temperature n) numbers numbers' alike s c c' r = line-done (Content.Temperature n) refl numbers numbers' alike s c c' r
  by-done Content.Int numbers numbers' alike s c c' r = line-done Content.Int refl numbers numbers' alike s c c' r
  by-done Content.Awaited numbers numbers' alike s c c' r = line-done Content.Awaited refl numbers numbers' alike s c c' r
  by-done Content.Regs numbers numbers' alike s c c' r = line-done Content.Regs refl numbers numbers' alike s c c' r
  by-done (Content.Expect a n) numbers numbers' alike s c c' r = line-done (Content.Expect a n) refl numbers numbers' alike s c c' r
  by-done Content.Show numbers numbers' alike s c c' r = line-done Content.Show refl numbers numbers' alike s c c' r
  by-done (Content.Set a n) numbers numbers' alike s c c' r = line-done (Content.Set a n) refl numbers numbers' alike s c c' r
  by-done (Content.At t) numbers numbers' alike s c c' r = at_done t numbers numbers' s c c' r
  by-done (Content.Stretch n) numbers numbers' alike s c c' r = line-done (Content.Stretch n) refl numbers numbers' alike s c c' r
  by-done Content.Frames numbers numbers' alike s c c' r = line-done Content.Frames refl numbers numbers' alike s c c' r
  by-done (Content.Probe n) numbers numbers' alike s c c' r = line-done (Content.Probe n) refl numbers numbers' alike s c c' r
  by-done Content.Degrees numbers numbers' alike s c c' r = line-done Content.Degrees refl numbers numbers' alike s c c' r
  by-done (Content.Record n) numbers numbers' alike s c c' r = line-done (Content.Record n) refl numbers numbers' alike s c c' r
  by-done (Content.Listing old first) numbers numbers' alike s c c' r = line-done (Content.Listing old first) refl numbers numbers' alike s c c' r
  by-done (Content.Quietest n) numbers numbers' alike s c c' r = line-done (Content.Quietest n) refl numbers numbers' alike s c c' r

  -- ---- with the item's name before it, where the line is not bad

  item-told : (content : Content) (text names c c' : List ℕ) → R c c' → SameTold R (item_told content text names c) (item_told content text names c')
  unfolding item_told
  item-told content text names c c' r =
      let end = (put_each names 4096 (line_words text)).next in
      let words = line_words text ++ (line_feed ∷ []) in
      either_same (is_item content) (asked words (set c 15 end)) (silent c) (asked words (set c' 15 end)) (silent c') (refl, kept 15 end refl c c' r) (refl, r)

  module _ (content : Content) (text numbers numbers' names : List ℕ) (alike : SameNumbers content numbers numbers') (s : State) (c c' : List ℕ)
      (r : R c c') (good : is_fault content c ≡ false) (good' : is_fault content c' ≡ false) where
    pub own_same : SameTold R (own_whole content text numbers names s c) (own_whole content text numbers' names s c')
    unfolding own_whole opening fault_told left_of
    own_same =
        rw (good, good')
        (behind-same (behind (silent c) (item_told content text names)) (behind (silent c') (item_told content text names))
        (λ after. told_by (tick_lines content after) content numbers s after) (λ after. told_by (tick_lines content after) content numbers' s after)
        (behind-same (silent c) (silent c') (item_told content text names) (item_told content text names) (refl, r) (item-told content text names))
        (by-told content numbers numbers' alike s))

    pub done-same : SameState (done_whole content text numbers names s c) (done_whole content text numbers' names s c')
    unfolding done_whole opening fault_told left_of
    done-same =
        rw (good, good')
        (by-done content numbers numbers' alike s (item_told content text names c).counts (item_told content text names c').counts
        (item-told content text names c c' r).1)

  -- ---- behind the answer

  module _ (call : (c c' : List ℕ) → R c c' → is_not_bad c ≡ is_not_bad c') (before : (c c' : List ℕ) → R c c' → get_or c 17 0 ≡ get_or c' 17 0) where
    judged-same : (expected : List (List ℕ)) (c c' answer : List ℕ) → R c c' → R (judged_counts expected c answer) (judged_counts expected c' answer)
    unfolding judged_counts
    judged-same [] c c' answer r = r
    judged-same (wanted ∷ others) c c' answer r = rw (call c c' r) (go (is_not_bad c') (begins_with wanted answer))
      where
        one : R (added c 7 1) (added c' 7 1)
        one = added-same 7 1 refl c c' r

        go : (t u : Bool) → R (cond t (cond u (added c 7 1) (added (added c 7 1) 8 1)) c) (cond t (cond u (added c' 7 1) (added (added c' 7 1) 8 1)) c')
        go true true = one
        go true false = added-same 8 1 refl (added c 7 1) (added c' 7 1) one
        go false u = r

    refusal-same : (told : Bool) (c c' : List ℕ) → R c c' → R (refusal_counted told c) (refusal_counted told c')
    unfolding refusal_counted
    refusal-same true c c' r = r
    refusal-same false c c' r = rw (same 4 refl c c' r, before c c' r) (go (eqb (get_or c' 4 0) (get_or c' 17 0)))
      where
        go : (t : Bool) → R (cond t c (added c 5 1)) (cond t c' (added c' 5 1))
        go true = r
        go false = added-same 5 1 refl c c' r

    announced-same : (expected : List (List ℕ)) (c c' answer : List ℕ) → R c c' → is_announced expected c answer ≡ is_announced expected c' answer
    unfolding is_announced
    announced-same [] c c' answer r = refl
    announced-same (wanted ∷ others) c c' answer r = rw (call c c' r)

    pub closed_same : (expected : List (List ℕ)) (c c' answer : List ℕ) → R c c' → R (closed_counts expected c answer) (closed_counts expected c' answer)
    unfolding closed_counts
    closed_same expected c c' answer r =
        rw (announced-same expected c c' answer r)
        (refusal-same (is_announced expected c' answer) (judged_counts expected c answer) (judged_counts expected c' answer) (judged-same expected c c' answer r))
