-- What any line tells does not go by the counts 12 to 20, and leaves them as they are: the places of the buffer among them. Assumes
-- nothing.
use Prim.Native.Nat.{ℕ, ◌+◌, ◌-◌, ◌<◌, min}
use mathlib.Core.Path.{◌≡◌, refl, sym, ap, ◌∙◌}
use mathlib.Core.Bool.{Bool, true, false, cond}
use mathlib.Core.List.{List, [], ◌∷◌, ◌++◌}
use native.Mathlib.Omega.{arith}
use lib.Dec.{eqb, ltb}
use lib.IntN.{ℤ}
use lib.ListN.{length, get_or, set, take}
use lib.Seq.{set_comm, set-get_or, get_or-set_same, get_or-set_other}
use Rattle.device.specs.declared.Model.{Model}
use Rattle.device.specs.declared.Answer.{Answer}
use Rattle.device.specs.declared.Answer.TheVariants.{Refused, Accepted, Ticked, Stretched, Good, Failed}
use Rattle.device.specs.Model.{is_sound}
use Rattle.device.specs.Call.{Call}
use Rattle.device.specs.Reply.{reply}
use Rattle.listing.specs.Listing.{capture_digits, lines, last_above}
use Rattle.setup_frames.specs.Frames.{frames}
use Rattle.line.specs.declared.Content.{Content}
use Rattle.numeral.specs.Ascii.{ascii}
use Rattle.wording.specs.Wording.{Texts, line_feed, numbered, counted as counted_texts, refused, listing_head, frame_lines}
use Rattle.item_state.specs.Log.{Log, added, counted, called, refusals, call_counted}
use Rattle.item_calls.specs.Lines.{WithFlash, told, item_counts, start_moment, transacted, bus_line, set_line, moved, single_line, ticks_part, ticks_ahead, unless_under_way, ticks_begun, tick_line, at_begun, at_line, moved_by, stretch_line, flight_line, temperature_line, beside, item_line, timed_line, call_line}
use Rattle.item_questions.specs.Answers.{question_line}
use Rattle.item_analysis.specs.Lines.{degrees_of, width_of, probe_line, record_line, analysis_line}
use Rattle.answer_text.specs.Texts.{Told, silent, behind, answered, told_of_transaction, told_of_bus, told_of_set, told_of_single, told_of_head, told_of_part, told_of_ticks, told_of_tick, told_of_at, told_of_stretch, told_of_delivery, call_told, told_of_expect, told_of_frames, question_told, told_of_probe, told_in_degrees, told_of_degrees, told_of_record, told_of_listing, told_of_place, told_of_quietest, recorded, analysis_told}
use Rattle.answer_text.specs.Line.{line_left, line_told, told_of_kept}
use Rattle.refusal.specs.declared.Refusal.{Refusal}
use Rattle.refusal.specs.Number.{number}
use Rattle.std.specs.Prelude.{Result, Ok, Err}

module _ (p v : ℕ) (low : 11 < p) (high : p < 21) where
  -- the same with another number in the place
  abbrev pub placed : Told → Told
  placed t = record { texts = t.texts; counts = set t.counts p v }

  abbrev pub Placed : (List ℕ → Told) → Type 0
  Placed tell = (counts : List ℕ) → tell (set counts p v) ≡ placed (tell counts)

  pub behind-placed : (first other : Told) (tell : List ℕ → Told) → Placed tell → other ≡ placed first → behind other tell ≡ placed (behind first tell)
  behind-placed first other tell apart e = rw (e, apart first.counts)

  pub either-placed : (t u : Told) (b : Bool) → cond b (placed t) (placed u) ≡ placed (cond b t u)
  either-placed t u true = refl
  either-placed t u false = refl

  -- ---- counts

  pub added-placed : (counts : List ℕ) (n k : ℕ) → (n ≡ p → ⊥) → added (set counts p v) n k ≡ set (added counts n k) p v
  unfolding added
  added-placed counts n k apart =
      rw (get_or-set_other counts p n v 0 apart, set_comm counts p n v (min (get_or counts n 0 + k) 18446744073709551615) (λ e. apart (sym e)))

  call-placed : (refused : ℕ) (counts : List ℕ) → call_counted refused (set counts p v) ≡ set (call_counted refused counts) p v
  unfolding call_counted
  call-placed refused counts =
      rw (added-placed counts 3 1 (λ e. omega arith), added-placed (added counts 3 1) 4 refused (λ e. omega arith))

  item-placed : (counts : List ℕ) → item_counts (set counts p v) ≡ set (item_counts counts) p v
  unfolding item_counts
  item-placed counts =
      rw (set_comm counts p 9 v 0 (λ e. omega arith), set_comm (set counts 9 0) p 10 v 0 (λ e. omega arith), set_comm (set (set counts 9 0) 10 0) p 11 v 0 (λ e. omega arith))

  start-placed : (answer : Answer) (counts : List ℕ) → start_moment answer (set counts p v) ≡ set (start_moment answer counts) p v
  unfolding start_moment
  start-placed (Refused r) counts = refl
  start-placed (Accepted true temperature) counts = set_comm counts p 9 v 0 (λ e. omega arith)
  start-placed (Accepted false true) counts = set_comm counts p 9 v 0 (λ e. omega arith)
  start-placed (Accepted false false) counts = refl
  start-placed (Ticked flight temperature) counts = refl
  start-placed (Stretched flight temperature) counts = refl
  start-placed Good counts = refl
  start-placed Failed counts = refl

  moved-placed : (n : ℕ) (counts : List ℕ) → moved n (set counts p v) ≡ set (moved n counts) p v
  unfolding moved
  moved-placed n counts = added-placed counts 9 n (λ e. omega arith)

  by-placed : (answer : Answer) (n : ℕ) (counts : List ℕ) → moved_by answer n (set counts p v) ≡ set (moved_by answer n counts) p v
  unfolding moved_by
  by-placed answer n counts = go (eqb (refusals answer) 0)
    where
      go : (b : Bool) → cond b (moved n (set counts p v)) (set counts p v) ≡ set (cond b (moved n counts) counts) p v
      go true = moved-placed n counts
      go false = refl

  answered-placed : (refused : ℕ) (texts : Texts) → Placed (answered refused texts)
  answered-placed refused texts counts = rw (call-placed refused counts)

  -- ---- lines that move the model

  transaction-placed : (call : Call) (texts : Answer → List ℕ → Texts) (m : Model) → Placed (told_of_transaction call texts m)
  unfolding told_of_transaction
  transaction-placed call texts m counts =
      let answer = (reply m call).answer in
      rw (call-placed (refusals answer) counts, start-placed answer (call_counted (refusals answer) counts))

  single-placed : (m : Model) → Placed (told_of_single m)
  unfolding told_of_single
  single-placed m counts = rw (moved-placed 1 counts, call-placed (refusals (reply m Call.tick).answer) (moved 1 counts))

  stretch-placed : (n : ℕ) (m : Model) → Placed (told_of_stretch n m)
  unfolding told_of_stretch
  stretch-placed n m counts =
      let answer = (reply m (Call.stretch n)).answer in
      rw (by-placed answer n counts, call-placed (refusals answer) (moved_by answer n counts))

  delivery-placed : (kind : List ℕ) (call : Call) (m : Model) → Placed (told_of_delivery kind call m)
  unfolding told_of_delivery
  delivery-placed kind call m counts = answered-placed _ _ counts

  part_placed : (total : ℕ) (m : Model) → Placed (told_of_part total m)
  unfolding told_of_part
  part_placed total m counts =
      rw (get_or-set_other counts p 21 v 0 (λ e. omega arith), set_comm counts p 21 v _ (λ e. omega arith))

  head-placed : (head : Texts) (n : ℕ) (after counts : List ℕ)
      → told_of_head head n (set after p v) (set counts p v) ≡ placed (told_of_head head n after counts)
  unfolding told_of_head
  head-placed head n after counts =
      rw (get_or-set_other counts p 21 v 0 (λ e. omega arith), call-placed 0 after, set_comm (call_counted 0 after) p 21 v n (λ e. omega arith))
      (go (eqb (get_or counts 21 0) 0))
    where
      go : (b : Bool) → cond b record { texts = head; counts = set (set (call_counted 0 after) 21 n) p v } (silent (set counts p v))
          ≡ placed (cond b record { texts = head; counts = set (call_counted 0 after) 21 n } (silent counts))
      go true = refl
      go false = refl

  ticks-placed : (n : ℕ) (m : Model) → Placed (told_of_ticks n m)
  unfolding told_of_ticks
  ticks-placed n m counts =
      let head = numbered (ascii "tick ") n in
      behind-placed (told_of_head head n (moved n counts) counts) (told_of_head head n (moved n (set counts p v)) (set counts p v)) (told_of_part n m) (part_placed n m)
      (rw (moved-placed n counts) (head-placed head n (moved n counts) counts))

  tick-placed : (n : ℕ) (m : Model) → Placed (told_of_tick n m)
  unfolding told_of_tick
  tick-placed n m counts = go (eqb n 1)
    where
      go : (b : Bool) → cond b (told_of_single m (set counts p v)) (told_of_ticks n m (set counts p v)) ≡ placed (cond b (told_of_single m counts) (told_of_ticks n m counts))
      go true = single-placed m counts
      go false = ticks-placed n m counts

  at-placed : (t : ℕ) (m : Model) → Placed (told_of_at t m)
  unfolding told_of_at
  at-placed t m counts =
      let head = numbered (ascii "at ") t in
      let left = t - get_or counts 9 0 in
      behind-placed (told_of_head head left (set counts 9 t) counts) (told_of_head head (t - get_or (set counts p v) 9 0) (set (set counts p v) 9 t) (set counts p v)) (told_of_part t m) (part_placed t m)
      (rw (get_or-set_other counts p 9 v 0 (λ e. omega arith), set_comm counts p 9 v t (λ e. omega arith)) (head-placed head left (set counts 9 t) counts))

  abbrev pub placing : WithFlash → WithFlash
  placing s = record { model = s.model; flash = s.flash; log = record { counts = set s.log.counts p v; answers = s.log.answers } }

  call-told-placed : (content : Content) (numbers : List ℕ) (s : WithFlash) → call_told content numbers (placing s) ≡ placed (call_told content numbers s)
  unfolding call_told told_of_bus told_of_set
  call-told-placed Content.Nothing numbers s = refl
  call-told-placed Content.TooLong numbers s = refl
  call-told-placed Content.UnknownWord numbers s = refl
  call-told-placed Content.BadNumber numbers s = refl
  call-told-placed Content.WrongCount numbers s = refl
  call-told-placed Content.Item numbers s = rw (item-placed s.log.counts)
  call-told-placed (Content.Bus n) numbers s = transaction-placed _ _ _ s.log.counts
  call-told-placed (Content.BusOut size n) numbers s = transaction-placed _ _ _ s.log.counts
  call-told-placed (Content.Tick n) numbers s = tick-placed n s.model s.log.counts
  call-told-placed (Content.Flight up down) numbers s = delivery-placed _ _ s.model s.log.counts
  call-told-placed (Content.Temperature n) numbers s = delivery-placed _ _ s.model s.log.counts
  call-told-placed Content.Int numbers s = refl
  call-told-placed Content.Awaited numbers s = refl
  call-told-placed Content.Regs numbers s = refl
  call-told-placed (Content.Expect a n) numbers s = refl
  call-told-placed Content.Show numbers s = refl
  call-told-placed (Content.Set a n) numbers s = transaction-placed _ _ _ s.log.counts
  call-told-placed (Content.At t) numbers s = at-placed t s.model s.log.counts
  call-told-placed (Content.Stretch n) numbers s = stretch-placed n s.model s.log.counts
  call-told-placed Content.Frames numbers s = refl
  call-told-placed (Content.Probe n) numbers s = refl
  call-told-placed Content.Degrees numbers s = refl
  call-told-placed (Content.Record n) numbers s = refl
  call-told-placed (Content.Listing old first) numbers s = refl
  call-told-placed (Content.Quietest n) numbers s = refl

  -- ---- the model and the user flash after it

  abbrev other_log : Log → Log
  other_log l = record { counts = set l.counts p v; answers = l.answers }

  called-placed : (refused : ℕ) (texts : Texts) (l : Log) → called refused texts (other_log l) ≡ other_log (called refused texts l)
  unfolding called counted call_counted
  called-placed refused texts l =
      rw (get_or-set_other l.counts p 0 v 0 (λ e. omega arith), added-placed l.counts 3 1 (λ e. omega arith), added-placed (added l.counts 3 1) 4 refused (λ e. omega arith), set_comm (added (added l.counts 3 1) 4 refused) p 0 v _ (λ e. omega arith))

  ahead-placed : (head : Texts) (n : ℕ) (l : Log) → ticks_ahead head n (other_log l) ≡ other_log (ticks_ahead head n l)
  unfolding ticks_ahead
  ahead-placed head n l = rw (called-placed 0 head l, set_comm (called 0 head l).counts p 21 v n (λ e. omega arith))

  way-placed : (begun l : Log) → unless_under_way (other_log begun) (other_log l) ≡ other_log (unless_under_way begun l)
  unfolding unless_under_way
  way-placed begun l = rw (get_or-set_other l.counts p 21 v 0 (λ e. omega arith)) (go (eqb (get_or l.counts 21 0) 0))
    where
      go : (b : Bool) → cond b (other_log begun) (other_log l) ≡ other_log (cond b begun l)
      go true = refl
      go false = refl

  part-model : (total : ℕ) (m : Model) (l : Log) → (ticks_part total m (other_log l)).model ≡ (ticks_part total m l).model
  unfolding ticks_part
  part-model total m l = rw (get_or-set_other l.counts p 21 v 0 (λ e. omega arith))

  begun-placed : (n : ℕ) (l : Log) → ticks_begun n (other_log l) ≡ other_log (ticks_begun n l)
  unfolding ticks_begun
  begun-placed n l =
      let l' : Log = record { counts = moved n l.counts; answers = l.answers } in
      rw (moved-placed n l.counts, ahead-placed (numbered (ascii "tick ") n) n l') (way-placed (ticks_ahead (numbered (ascii "tick ") n) n l') l)

  at-begun-placed : (t : ℕ) (l : Log) → at_begun t (other_log l) ≡ other_log (at_begun t l)
  unfolding at_begun
  at-begun-placed t l =
      let l' : Log = record { counts = set l.counts 9 t; answers = l.answers } in
      let left = t - get_or l.counts 9 0 in
      rw (get_or-set_other l.counts p 9 v 0 (λ e. omega arith), set_comm l.counts p 9 v t (λ e. omega arith), ahead-placed (numbered (ascii "at ") t) left l')
      (way-placed (ticks_ahead (numbered (ascii "at ") t) left l') l)

  single-model : (m : Model) (l : Log) → (single_line m (other_log l)).model ≡ (single_line m l).model
  unfolding single_line told
  single-model m l = refl

  tick-model : (n : ℕ) (m : Model) (l : Log) → (tick_line n m (other_log l)).model ≡ (tick_line n m l).model
  unfolding tick_line
  tick-model n m l = rw (begun-placed n l) (go (eqb n 1))
    where
      go : (b : Bool) → (cond b (single_line m (other_log l)) (ticks_part n m (other_log (ticks_begun n l)))).model ≡ (cond b (single_line m l) (ticks_part n m (ticks_begun n l))).model
      go true = single-model m l
      go false = part-model n m (ticks_begun n l)

  at-model : (t : ℕ) (m : Model) (l : Log) → (at_line t m (other_log l)).model ≡ (at_line t m l).model
  unfolding at_line
  at-model t m l = rw (at-begun-placed t l) (part-model t m (at_begun t l))

  pub model-placed : (content : Content) (numbers : List ℕ) (s : WithFlash)
      → ((call_line content numbers (placing s)).model ≡ (call_line content numbers s).model)
      × ((call_line content numbers (placing s)).flash ≡ (call_line content numbers s).flash)
  unfolding call_line timed_line beside item_line bus_line set_line transacted stretch_line flight_line temperature_line told
  model-placed Content.Nothing numbers s = (refl, refl)
  model-placed Content.TooLong numbers s = (refl, refl)
  model-placed Content.UnknownWord numbers s = (refl, refl)
  model-placed Content.BadNumber numbers s = (refl, refl)
  model-placed Content.WrongCount numbers s = (refl, refl)
  model-placed Content.Item numbers s = (refl, refl)
  model-placed (Content.Bus n) numbers s = (refl, refl)
  model-placed (Content.BusOut size n) numbers s = (refl, refl)
  model-placed (Content.Tick n) numbers s = (tick-model n s.model s.log, refl)
  model-placed (Content.Flight up down) numbers s = (refl, refl)
  model-placed (Content.Temperature n) numbers s = (refl, refl)
  model-placed Content.Int numbers s = (refl, refl)
  model-placed Content.Awaited numbers s = (refl, refl)
  model-placed Content.Regs numbers s = (refl, refl)
  model-placed (Content.Expect a n) numbers s = (refl, refl)
  model-placed Content.Show numbers s = (refl, refl)
  model-placed (Content.Set a n) numbers s = (refl, refl)
  model-placed (Content.At t) numbers s = (at-model t s.model s.log, refl)
  model-placed (Content.Stretch n) numbers s = (refl, refl)
  model-placed Content.Frames numbers s = (refl, refl)
  model-placed (Content.Probe n) numbers s = (refl, refl)
  model-placed Content.Degrees numbers s = (refl, refl)
  model-placed (Content.Record n) numbers s = (refl, refl)
  model-placed (Content.Listing old first) numbers s = (refl, refl)
  model-placed (Content.Quietest n) numbers s = (refl, refl)

  -- ---- lines that ask

  expect-placed : (m : Model) (a : ℕ) (ws : List ℕ) → Placed (told_of_expect m a ws)
  unfolding told_of_expect
  expect-placed m a ws counts =
      rw (added-placed counts 7 (length ws) (λ e. omega arith), added-placed (added counts 7 (length ws)) 8 _ (λ e. omega arith))

  frames-placed : (m : Model) → Placed (told_of_frames m)
  unfolding told_of_frames
  frames-placed m counts =
      let texts = ascii "frames " ∷ (counted_texts (length (frames m.setup)) line_feed ++ frame_lines (frames m.setup)) in
      rw (call-placed 0 counts, call-placed 1 counts)
      (either-placed (answered 0 texts counts) (answered 1 (refused (ascii "frames") 0) counts) (is_sound m))

  question-placed : (content : Content) (numbers : List ℕ) (m : Model) → Placed (question_told content numbers m)
  unfolding question_told
  question-placed Content.Nothing numbers m counts = refl
  question-placed Content.TooLong numbers m counts = refl
  question-placed Content.UnknownWord numbers m counts = refl
  question-placed Content.BadNumber numbers m counts = refl
  question-placed Content.WrongCount numbers m counts = refl
  question-placed Content.Item numbers m counts = refl
  question-placed (Content.Bus n) numbers m counts = refl
  question-placed (Content.BusOut size n) numbers m counts = refl
  question-placed (Content.Tick n) numbers m counts = refl
  question-placed (Content.Flight up down) numbers m counts = refl
  question-placed (Content.Temperature n) numbers m counts = refl
  question-placed Content.Int numbers m counts = refl
  question-placed Content.Awaited numbers m counts = refl
  question-placed Content.Regs numbers m counts = refl
  question-placed (Content.Expect a n) numbers m counts = expect-placed m a _ counts
  question-placed Content.Show numbers m counts = refl
  question-placed (Content.Set a n) numbers m counts = refl
  question-placed (Content.At t) numbers m counts = refl
  question-placed (Content.Stretch n) numbers m counts = refl
  question-placed Content.Frames numbers m counts = frames-placed m counts
  question-placed (Content.Probe n) numbers m counts = refl
  question-placed Content.Degrees numbers m counts = refl
  question-placed (Content.Record n) numbers m counts = refl
  question-placed (Content.Listing old first) numbers m counts = refl
  question-placed (Content.Quietest n) numbers m counts = refl

  -- ---- lines on what an item keeps beside its model

  probe-placed : (entries probes : List ℕ) → Placed (told_of_probe entries probes)
  unfolding told_of_probe
  probe-placed entries probes counts =
      rw (get_or-set_other counts p 11 v 0 (λ e. omega arith), set_comm counts p 11 v _ (λ e. omega arith))

  record-placed : (ws : List ℕ) (differences : List ℤ) → Placed (told_of_record ws differences)
  unfolding told_of_record
  record-placed ws differences counts =
      rw (get_or-set_other counts p 10 v 0 (λ e. omega arith), set_comm counts p 10 v _ (λ e. omega arith))

  in-degrees-placed : (d : Result ℕ Refusal) → Placed (told_in_degrees d)
  unfolding told_in_degrees
  in-degrees-placed (Ok n) counts = answered-placed 0 _ counts
  in-degrees-placed (Err r) counts = answered-placed 1 _ counts

  degrees-placed : (numbers probes : List ℕ) → Placed (told_of_degrees numbers probes)
  unfolding told_of_degrees
  degrees-placed numbers probes counts =
      let d = degrees_of (take (get_or counts 11 0) probes) (get_or numbers 0 0) (get_or numbers 1 0) in
      rw (get_or-set_other counts p 11 v 0 (λ e. omega arith), in-degrees-placed d counts) (go d (ltb (length numbers) 2))
    where
      go : (d : Result ℕ Refusal) (b : Bool) → cond b (silent (set counts p v)) (placed (told_in_degrees d counts)) ≡ placed (cond b (silent counts) (told_in_degrees d counts))
      go d true = refl
      go d false = refl

  place-placed : (q : Result ℕ Refusal) (values : List ℤ) (width : ℕ) → Placed (told_of_place q values width)
  unfolding told_of_place
  place-placed (Ok start) values width counts = answered-placed 0 _ counts
  place-placed (Err r) values width counts = answered-placed 1 _ counts

  quietest-placed : (width : ℕ) (values : List ℤ) → Placed (told_of_quietest width values)
  unfolding told_of_quietest
  quietest-placed width values counts = place-placed _ values width counts

  listing-placed : (d first : ℕ) (values : List ℤ) (used : ℕ) → Placed (told_of_listing d first values used)
  unfolding told_of_listing
  listing-placed d first values used counts =
      rw (call-placed 0 counts, call-placed 1 counts)
      (either-placed (answered 1 (refused (ascii "listing") 20) counts) (answered 0 (listing_head used ++ (lines d first values ∷ [])) counts)
      (last_above d first (length values)))

  kept-placed : (content : Content) (numbers : List ℕ) (m : Model) (differences : List ℤ) (probes : List ℕ) → Placed (told_of_kept content numbers m differences probes)
  unfolding analysis_told
  kept-placed Content.Nothing numbers m differences probes counts = refl
  kept-placed Content.TooLong numbers m differences probes counts = refl
  kept-placed Content.UnknownWord numbers m differences probes counts = refl
  kept-placed Content.BadNumber numbers m differences probes counts = refl
  kept-placed Content.WrongCount numbers m differences probes counts = refl
  kept-placed Content.Item numbers m differences probes counts = refl
  kept-placed (Content.Bus n) numbers m differences probes counts = refl
  kept-placed (Content.BusOut size n) numbers m differences probes counts = refl
  kept-placed (Content.Tick n) numbers m differences probes counts = refl
  kept-placed (Content.Flight up down) numbers m differences probes counts = refl
  kept-placed (Content.Temperature n) numbers m differences probes counts = refl
  kept-placed Content.Int numbers m differences probes counts = refl
  kept-placed Content.Awaited numbers m differences probes counts = refl
  kept-placed Content.Regs numbers m differences probes counts = refl
  kept-placed (Content.Expect a n) numbers m differences probes counts = refl
  kept-placed Content.Show numbers m differences probes counts = refl
  kept-placed (Content.Set a n) numbers m differences probes counts = refl
  kept-placed (Content.At t) numbers m differences probes counts = refl
  kept-placed (Content.Stretch n) numbers m differences probes counts = refl
  kept-placed Content.Frames numbers m differences probes counts = refl
  kept-placed (Content.Probe n) numbers m differences probes counts = probe-placed _ probes counts
  kept-placed Content.Degrees numbers m differences probes counts = degrees-placed numbers probes counts
  kept-placed (Content.Record n) numbers m differences probes counts = record-placed _ differences counts
  kept-placed (Content.Listing old first) numbers m differences probes counts = rw (get_or-set_other counts p 10 v 0 (λ e. omega arith)) (listing-placed (capture_digits (width_of old)) first (recorded differences counts) (get_or counts 10 0) counts)
  kept-placed (Content.Quietest n) numbers m differences probes counts = rw (get_or-set_other counts p 10 v 0 (λ e. omega arith)) (quietest-placed n (recorded differences counts) counts)

  -- ---- any line

  -- What a line tells is the same, and the number in the place stays.
  pub line-placed : (content : Content) (numbers : List ℕ) (s : WithFlash) (differences : List ℤ) (probes : List ℕ)
      → line_told content numbers (placing s) differences probes ≡ placed (line_told content numbers s differences probes)
  unfolding line_told
  line-placed content numbers s differences probes =
      let m = (call_line content numbers s).model in
      rw (model-placed content numbers s).0
      (behind-placed (behind (call_told content numbers s) (question_told content numbers m)) (behind (call_told content numbers (placing s)) (question_told content numbers m))
      (told_of_kept content numbers m differences probes) (kept-placed content numbers m differences probes)
      (behind-placed (call_told content numbers s) (call_told content numbers (placing s)) (question_told content numbers m) (question-placed content numbers m)
      (call-told-placed content numbers s)))

  -- ---- the record and the probe table after it

  pub left-placed : (content : Content) (numbers : List ℕ) (s : WithFlash) (differences : List ℤ) (probes : List ℕ)
      → ((line_left content numbers (placing s) differences probes).differences ≡ (line_left content numbers s differences probes).differences)
      × ((line_left content numbers (placing s) differences probes).probes ≡ (line_left content numbers s differences probes).probes)
  unfolding line_left call_line timed_line beside question_line analysis_line probe_line record_line
  left-placed Content.Nothing numbers s differences probes = (refl, refl)
  left-placed Content.TooLong numbers s differences probes = (refl, refl)
  left-placed Content.UnknownWord numbers s differences probes = (refl, refl)
  left-placed Content.BadNumber numbers s differences probes = (refl, refl)
  left-placed Content.WrongCount numbers s differences probes = (refl, refl)
  left-placed Content.Item numbers s differences probes = (refl, refl)
  left-placed (Content.Bus n) numbers s differences probes = (refl, refl)
  left-placed (Content.BusOut size n) numbers s differences probes = (refl, refl)
  left-placed (Content.Tick n) numbers s differences probes = (refl, refl)
  left-placed (Content.Flight up down) numbers s differences probes = (refl, refl)
  left-placed (Content.Temperature n) numbers s differences probes = (refl, refl)
  left-placed Content.Int numbers s differences probes = (refl, refl)
  left-placed Content.Awaited numbers s differences probes = (refl, refl)
  left-placed Content.Regs numbers s differences probes = (refl, refl)
  left-placed (Content.Expect a n) numbers s differences probes = (refl, refl)
  left-placed Content.Show numbers s differences probes = (refl, refl)
  left-placed (Content.Set a n) numbers s differences probes = (refl, refl)
  left-placed (Content.At t) numbers s differences probes = (refl, refl)
  left-placed (Content.Stretch n) numbers s differences probes = (refl, refl)
  left-placed Content.Frames numbers s differences probes = (refl, refl)
  left-placed (Content.Probe n) numbers s differences probes = (refl, rw (get_or-set_other s.log.counts p 11 v 0 (λ e. omega arith)))
  left-placed Content.Degrees numbers s differences probes = (refl, refl)
  left-placed (Content.Record n) numbers s differences probes = (rw (get_or-set_other s.log.counts p 10 v 0 (λ e. omega arith)), refl)
  left-placed (Content.Listing old first) numbers s differences probes = (refl, refl)
  left-placed (Content.Quietest n) numbers s differences probes = (refl, refl)

-- So the number is left as it was.
pub place-left : (p : ℕ) (low : 11 < p) (high : p < 21) (tell : List ℕ → Told) (counts : List ℕ) → Placed p (get_or counts p 0) low high tell
    → p < length (tell counts).counts → get_or (tell counts).counts p 0 ≡ get_or counts p 0
place-left p low high tell counts apart long =
    let same : tell counts ≡ placed p (get_or counts p 0) low high (tell counts) = rw (set-get_or counts p 0) at (apart counts) in
    ap (λ (t : Told). get_or t.counts p 0) same ∙ get_or-set_same (tell counts).counts p (get_or counts p 0) 0 long
