-- The texts of each line's answer, apart from the buffer that they are put into. What stands in quotation marks is that of docs/ITEMS.md.
-- Assumes nothing.
use Rattle.std.specs.Prelude.{ℕ, ◌+◌, ◌-◌, ◌≤◌, min, Bool, true, false, cond, List, [], ◌∷◌, ◌++◌, map, eqb, ltb, ℤ, length, get_or, set, take, drop, replicate}
use Rattle.numeral.specs.Place.{joined}
use Rattle.numeral.specs.Print.{low_bytes}
use Rattle.device.specs.declared.Model.{Model}
use Rattle.device.specs.declared.Reply.{Reply}
use Rattle.device.specs.declared.Answer.{Answer}
use Rattle.device.specs.Model.{is_sound}
use Rattle.device.specs.Call.{Call}
use Rattle.device.specs.Reply.{reply, output}
use Rattle.quietest.specs.Quietest.{quietest_place, run_spread}
use Rattle.difference.specs.Difference.{signed_of}
use Rattle.listing.specs.Listing.{capture_digits, lines, last_above}
use Rattle.setup_frames.specs.Frames.{frames}
use Rattle.page.specs.Page.{page_texts}
use Rattle.line.specs.declared.Content.{Content}
use Rattle.wording.specs.Wording.{Texts, line_feed, bus, set as set_texts, tick_head, at_head, single, stretch, flight_kind, temperature_kind, delivery, frame_lines, frames_head, frames_refused}
use Rattle.wording.specs.Wording.{probe, degrees, degrees_refused, record_texts, listing_head, listing_refused, quietest, quietest_refused}
use Rattle.item_state.specs.Log.{Log, added, put, call_counted, refusals}
use Rattle.item_calls.specs.Lines.{WithFlash, item_counts, start_moment, write_bytes, moved, moved_by, ticked}
use Rattle.item_calls.specs.Buffer.{buffer_size}
use Rattle.item_questions.specs.Answers.{interrupt, awaited, registers, differing, expectation}
use Rattle.item_analysis.specs.Kept.{kept_each}
use Rattle.item_analysis.specs.Lines.{ItemKept, degrees_of, record_words, width_of}
use Rattle.refusal.specs.declared.Refusal.{Refusal}
use Rattle.refusal.specs.Number.{number}
use Rattle.std.specs.Prelude.{Result, Ok, Err}

-- What a line tells: the texts of its answer, and the counts after it, but for the first, which is left as it was.
pub record Told : Type 0 where
  pub texts : Texts
  pub counts : List ℕ

-- The texts put into the buffer behind the answers so far; the first count is where the answers end.
unfoldable pub on_page : Told → Log → Log
on_page told l = record { counts = set told.counts 0 (put told.texts l).next; answers = (put told.texts l).bytes }

-- The buffer has room for the texts behind the answers so far.
abbrev pub HasRoom : Told → Log → Type 0
HasRoom told l = get_or l.counts 0 0 + length (joined told.texts) ≤ length l.answers

-- The same told where the answers end at another place.
abbrev pub ending_at : ℕ → Told → Told
ending_at place told = record { texts = told.texts; counts = set told.counts 0 place }

-- no answer
abbrev pub silent : List ℕ → Told
silent counts = record { texts = []; counts = counts }

-- one thing told, then another, which goes by the counts that the first left
abbrev pub behind : Told → (List ℕ → Told) → Told
behind first next = record { texts = first.texts ++ (next first.counts).texts; counts = (next first.counts).counts }

-- a call answered with texts
abbrev pub answered : ℕ → Texts → List ℕ → Told
answered refused texts counts = record { texts = texts; counts = call_counted refused counts }

-- a reply, told in texts
abbrev pub replied : Reply → Texts → List ℕ → Told
replied r texts counts = answered (refusals r.answer) texts counts

-- ---- lines that move the model

-- a transaction, told in texts of its answer and of the output buffer after it
unfoldable pub told_of_transaction : Call → (Answer → List ℕ → Texts) → Model → List ℕ → Told
told_of_transaction call texts m counts = record {
  texts = texts (reply m call).answer (output m call);
  counts = start_moment (reply m call).answer (call_counted (refusals (reply m call).answer) counts);
}

-- `bus`: "one transaction of these bytes"; "Each byte of a buffer is EEh before the call."
unfoldable pub told_of_bus : List ℕ → ℕ → WithFlash → Told
told_of_bus bytes size s = told_of_transaction (Call.transaction bytes (replicate size 0xEE) s.flash) bus s.model s.log.counts

-- `set`: "the transaction of A .. and .. words"
unfoldable pub told_of_set : ℕ → List ℕ → WithFlash → Told
told_of_set a ws s =
    told_of_transaction (Call.transaction (joined (write_bytes a ws)) [] s.flash) (λ answer buffer. set_texts answer) s.model
    s.log.counts

-- one single tick
unfoldable pub told_of_single : Model → List ℕ → Told
told_of_single m counts = replied (reply m Call.tick) (single (reply m Call.tick).answer) (moved 1 counts)

-- the first words of a line of ticks, and its ticks as those left in count 21; nothing where the line is under way
unfoldable pub told_of_head : Texts → ℕ → List ℕ → List ℕ → Told
told_of_head head n after counts =
    cond (eqb (get_or counts 21 0) 0) record { texts = head; counts = set (call_counted 0 after) 21 n } (silent counts)

-- with the last of its ticks the line ends
unfoldable pub end_texts : ℕ → Texts
end_texts left = cond (eqb left 0) (line_feed ∷ []) []

-- "then ` WHAT@I`": a part of the ticks that are left, of so many
unfoldable pub told_of_part : ℕ → Model → List ℕ → Told
told_of_part total m counts =
    let left = min (get_or counts 21 0) total in
    let n = min left 1048576 in record {
      texts = (ticked n n (total - left) m).texts ++ end_texts (left - n);
      counts = set counts 21 (left - n);
    }

-- "`tick N`"
unfoldable pub told_of_ticks : ℕ → Model → List ℕ → Told
told_of_ticks n m counts = behind (told_of_head (tick_head n) n (moved n counts) counts) (told_of_part n m)

unfoldable pub told_of_tick : ℕ → Model → List ℕ → Told
told_of_tick n m counts = cond (eqb n 1) (told_of_single m counts) (told_of_ticks n m counts)

-- "`at T`"
unfoldable pub told_of_at : ℕ → Model → List ℕ → Told
told_of_at t m counts =
    behind (told_of_head (at_head t) (t - get_or counts 9 0) (set counts 9 t) counts) (told_of_part t m)

-- "one stretch of N ticks"
unfoldable pub told_of_stretch : ℕ → Model → List ℕ → Told
told_of_stretch n m counts =
    let r = reply m (Call.stretch n) in replied r (stretch r.answer n) (moved_by r.answer n counts)

-- "`flight good`, `flight failed` or `flight no NUMBER WORD`", and so for the other kind
unfoldable pub told_of_delivery : List ℕ → Call → Model → List ℕ → Told
told_of_delivery kind call m counts = replied (reply m call) (delivery kind (reply m call).answer) counts

-- What a line that moves the model tells; every other tells nothing here. The line's numbers stand in a buffer.
unfoldable pub call_told : Content → List ℕ → WithFlash → Told
call_told Content.Nothing numbers s = silent s.log.counts
call_told Content.TooLong numbers s = silent s.log.counts
call_told Content.UnknownWord numbers s = silent s.log.counts
call_told Content.BadNumber numbers s = silent s.log.counts
call_told Content.WrongCount numbers s = silent s.log.counts
call_told Content.Item numbers s = silent (item_counts s.log.counts)
call_told (Content.Bus n) numbers s = told_of_bus (low_bytes (take n numbers)) (buffer_size (take n numbers)) s
call_told (Content.BusOut size n) numbers s = told_of_bus (low_bytes (take n numbers)) size s
call_told (Content.Tick n) numbers s = told_of_tick n s.model s.log.counts
call_told (Content.Flight up down) numbers s =
    told_of_delivery flight_kind (Call.flight (take up numbers) (take down (drop up numbers))) s.model s.log.counts
call_told (Content.Temperature n) numbers s =
    told_of_delivery temperature_kind (Call.temperature (take n numbers)) s.model s.log.counts
call_told Content.Int numbers s = silent s.log.counts
call_told Content.Awaited numbers s = silent s.log.counts
call_told Content.Regs numbers s = silent s.log.counts
call_told (Content.Expect a n) numbers s = silent s.log.counts
call_told Content.Show numbers s = silent s.log.counts
call_told (Content.Set a n) numbers s = told_of_set a (take n numbers) s
call_told (Content.At t) numbers s = told_of_at t s.model s.log.counts
call_told (Content.Stretch n) numbers s = told_of_stretch n s.model s.log.counts
call_told Content.Frames numbers s = silent s.log.counts
call_told (Content.Probe n) numbers s = silent s.log.counts
call_told Content.Degrees numbers s = silent s.log.counts
call_told (Content.Record n) numbers s = silent s.log.counts
call_told (Content.Listing old first) numbers s = silent s.log.counts
call_told (Content.Quietest n) numbers s = silent s.log.counts

-- ---- lines that ask

-- texts that are no call's answer
abbrev pub asked : Texts → List ℕ → Told
asked texts counts = record { texts = texts; counts = counts }

-- `expect`: "E the words of `expect` lines and the `=>`, X those of E that differ"
unfoldable pub told_of_expect : Model → ℕ → List ℕ → List ℕ → Told
told_of_expect m a ws counts = record {
  texts = expectation m a ws;
  counts = added (added counts 7 (length ws)) 8 (differing m a ws);
}

-- "`frames K`, then K lines"; an unsound model, which no item has, gets number 0
unfoldable pub told_of_frames : Model → List ℕ → Told
told_of_frames m counts =
    cond (is_sound m)
    (answered 0 (frames_head (length (frames m.setup)) ++ frame_lines (frames m.setup)) counts)
    (answered 1 (frames_refused 0) counts)

-- What a line that asks tells; every other tells nothing here.
unfoldable pub question_told : Content → List ℕ → Model → List ℕ → Told
question_told Content.Nothing numbers m counts = silent counts
question_told Content.TooLong numbers m counts = silent counts
question_told Content.UnknownWord numbers m counts = silent counts
question_told Content.BadNumber numbers m counts = silent counts
question_told Content.WrongCount numbers m counts = silent counts
question_told Content.Item numbers m counts = silent counts
question_told (Content.Bus n) numbers m counts = silent counts
question_told (Content.BusOut size n) numbers m counts = silent counts
question_told (Content.Tick n) numbers m counts = silent counts
question_told (Content.Flight up down) numbers m counts = silent counts
question_told (Content.Temperature n) numbers m counts = silent counts
question_told Content.Int numbers m counts = asked (interrupt m) counts
question_told Content.Awaited numbers m counts = asked (awaited m) counts
question_told Content.Regs numbers m counts = asked (registers m) counts
question_told (Content.Expect a n) numbers m counts = told_of_expect m a (take n numbers) counts
question_told Content.Show numbers m counts = asked (page_texts m) counts
question_told (Content.Set a n) numbers m counts = silent counts
question_told (Content.At t) numbers m counts = silent counts
question_told (Content.Stretch n) numbers m counts = silent counts
question_told Content.Frames numbers m counts = told_of_frames m counts
question_told (Content.Probe n) numbers m counts = silent counts
question_told Content.Degrees numbers m counts = silent counts
question_told (Content.Record n) numbers m counts = silent counts
question_told (Content.Listing old first) numbers m counts = silent counts
question_told (Content.Quietest n) numbers m counts = silent counts

-- ---- lines on what an item keeps beside its model

-- "`probe K`, the number of entries that the table now has"
unfoldable pub told_of_probe : List ℕ → List ℕ → List ℕ → Told
told_of_probe entries probes counts =
    let table = kept_each entries record { values = probes; used = get_or counts 11 0 } in
    asked (probe table.used) (set counts 11 table.used)

-- "`degrees D.DDD`, `degrees no 13 off the table` or `degrees no 14 bad table`"
unfoldable pub told_in_degrees : Result ℕ Refusal → List ℕ → Told
told_in_degrees (Ok n) counts = answered 0 (degrees n) counts
told_in_degrees (Err r) counts = answered 1 (degrees_refused (number r)) counts

-- "the temperature of a probe's word A and its 1,000 Ω reference's word B", the line's two numbers
unfoldable pub told_of_degrees : List ℕ → List ℕ → List ℕ → Told
told_of_degrees numbers probes counts =
    cond (ltb (length numbers) 2) (silent counts)
    (told_in_degrees (degrees_of (take (get_or counts 11 0) probes) (get_or numbers 0 0) (get_or numbers 1 0)) counts)

-- "`record D ..`, what was added"
unfoldable pub told_of_record : List ℕ → List ℤ → List ℕ → Told
told_of_record ws differences counts =
    let kept = kept_each (map signed_of ws) record { values = differences; used = get_or counts 10 0 } in
    asked (record_texts ws) (set counts 10 kept.used)

-- "`listing K`, then the K lines, or `listing no 20 capture number`": the lines are one text. A buffer that has no room for them gets a
-- refusal in their place, which is not told here.
unfoldable pub told_of_listing : ℕ → ℕ → List ℤ → ℕ → List ℕ → Told
told_of_listing d first values used counts =
    cond (last_above d first (length values)) (answered 1 (listing_refused 20) counts)
    (answered 0 (listing_head used ++ (lines d first values ∷ [])) counts)

-- "`quietest START SPREAD`, START from 0, SPREAD the largest less the smallest; or `quietest no 18 width`"
unfoldable pub told_of_place : Result ℕ Refusal → List ℤ → ℕ → List ℕ → Told
told_of_place (Ok start) values width counts = answered 0 (quietest start (run_spread (take width (drop start values)))) counts
told_of_place (Err r) values width counts = answered 1 (quietest_refused (number r)) counts

-- "the run of W neighbours in the record that differ least, the earliest of equals"
unfoldable pub told_of_quietest : ℕ → List ℤ → List ℕ → Told
told_of_quietest width values counts = told_of_place (quietest_place values width) values width counts

-- the record's differences, as many as were added
abbrev pub recorded : List ℤ → List ℕ → List ℤ
recorded differences counts = take (get_or counts 10 0) differences

-- What such a line tells; every other tells nothing here.
unfoldable pub analysis_told : Content → List ℕ → Model → ItemKept → Told
analysis_told Content.Nothing numbers m s = silent s.log.counts
analysis_told Content.TooLong numbers m s = silent s.log.counts
analysis_told Content.UnknownWord numbers m s = silent s.log.counts
analysis_told Content.BadNumber numbers m s = silent s.log.counts
analysis_told Content.WrongCount numbers m s = silent s.log.counts
analysis_told Content.Item numbers m s = silent s.log.counts
analysis_told (Content.Bus n) numbers m s = silent s.log.counts
analysis_told (Content.BusOut size n) numbers m s = silent s.log.counts
analysis_told (Content.Tick n) numbers m s = silent s.log.counts
analysis_told (Content.Flight up down) numbers m s = silent s.log.counts
analysis_told (Content.Temperature n) numbers m s = silent s.log.counts
analysis_told Content.Int numbers m s = silent s.log.counts
analysis_told Content.Awaited numbers m s = silent s.log.counts
analysis_told Content.Regs numbers m s = silent s.log.counts
analysis_told (Content.Expect a n) numbers m s = silent s.log.counts
analysis_told Content.Show numbers m s = silent s.log.counts
analysis_told (Content.Set a n) numbers m s = silent s.log.counts
analysis_told (Content.At t) numbers m s = silent s.log.counts
analysis_told (Content.Stretch n) numbers m s = silent s.log.counts
analysis_told Content.Frames numbers m s = silent s.log.counts
analysis_told (Content.Probe n) numbers m s = told_of_probe (take n numbers) s.probes s.log.counts
analysis_told Content.Degrees numbers m s = told_of_degrees numbers s.probes s.log.counts
analysis_told (Content.Record n) numbers m s = told_of_record (record_words m numbers n) s.differences s.log.counts
analysis_told (Content.Listing old first) numbers m s =
    told_of_listing (capture_digits (width_of old)) first (recorded s.differences s.log.counts) (get_or s.log.counts 10 0)
    s.log.counts
analysis_told (Content.Quietest n) numbers m s = told_of_quietest n (recorded s.differences s.log.counts) s.log.counts

-- The one line whose answer asks how much room is left in the buffer.
unfoldable pub is_listing : Content → Bool
is_listing Content.Nothing = false
is_listing Content.TooLong = false
is_listing Content.UnknownWord = false
is_listing Content.BadNumber = false
is_listing Content.WrongCount = false
is_listing Content.Item = false
is_listing (Content.Bus n) = false
is_listing (Content.BusOut size n) = false
is_listing (Content.Tick n) = false
is_listing (Content.Flight up down) = false
is_listing (Content.Temperature n) = false
is_listing Content.Int = false
is_listing Content.Awaited = false
is_listing Content.Regs = false
is_listing (Content.Expect a n) = false
is_listing Content.Show = false
is_listing (Content.Set a n) = false
is_listing (Content.At t) = false
is_listing (Content.Stretch n) = false
is_listing Content.Frames = false
is_listing (Content.Probe n) = false
is_listing Content.Degrees = false
is_listing (Content.Record n) = false
is_listing (Content.Listing old first) = true
is_listing (Content.Quietest n) = false
