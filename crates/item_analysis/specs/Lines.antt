-- The lines on what an item keeps beside its model, in the order of the format's table. What stands in quotation marks is that
-- of docs/ITEMS.md. Assumes nothing.
use Rattle.std.specs.Prelude.{ℕ, ◌+◌, min, Bool, cond, List, [], ◌∷◌, ◌++◌, eqb, ltb, leb, ℤ, length, get_or, set, take, drop, map}
use Rattle.device.specs.declared.Model.{Model}
use Rattle.thermometer.specs.Degrees.{degrees as degrees_pt1000, degrees_by}
use Rattle.difference.specs.Difference.{joined_word, signed_of}
use Rattle.listing.specs.declared.Width.{Width}
use Rattle.listing.specs.Listing.{capture_digits, Outcome, listing}
use Rattle.quietest.specs.Quietest.{quietest_place, run_spread}
use Rattle.line.specs.declared.Content.{Content}
use Rattle.wording.specs.Wording.{probe, degrees, degrees_refused, record_texts, listing_head, listing_refused, quietest, quietest_refused}
use Rattle.item_state.specs.Log.{Log, put, said, counted, called}
use Rattle.item_state.specs.Told.{read_word}
use Rattle.item_analysis.specs.Kept.{kept_each}
use Rattle.refusal.specs.declared.Refusal.{Refusal}
use Rattle.refusal.specs.Number.{number}
use Rattle.std.specs.Prelude.{Result, Ok, Err}

-- ---- `probe`

-- The probe table, and the log.
pub record WithProbes : Type 0 where
  pub probes : List ℕ
  pub log : Log

-- "adds one or more entries .. to the item's own probe table"; "`probe K`, the number of entries that the table now has"
unfoldable pub probe_line : List ℕ → WithProbes → WithProbes
probe_line entries s =
    let table = kept_each entries record { values = s.probes; used = get_or s.log.counts 11 0 } in record {
      probes = table.values;
      log = said (probe table.used) record { counts = set s.log.counts 11 table.used; answers = s.log.answers };
    }

-- ---- `degrees`

-- "by the item's table or, where it has none, by PT1000's for 0 to 180 degrees"
unfoldable pub degrees_of : List ℕ → ℕ → ℕ → Result ℕ Refusal
degrees_of table a b = cond (eqb (length table) 0) (degrees_pt1000 a b) (degrees_by table a b)

-- "`degrees D.DDD`, `degrees no 13 off the table` or `degrees no 14 bad table`"
unfoldable pub degrees_told : Result ℕ Refusal → Log → Log
degrees_told (Ok n) l = called 0 (degrees n) l
degrees_told (Err r) l = called 1 (degrees_refused (number r)) l

-- "the temperature of a probe's word A and its 1,000 Ω reference's word B", the line's two numbers
unfoldable pub degrees_line : List ℕ → List ℕ → Log → Log
degrees_line numbers probes l =
    cond (ltb (length numbers) 2) l
    (degrees_told (degrees_of (take (get_or l.counts 11 0) probes) (get_or numbers 0 0) (get_or numbers 1 0)) l)

-- ---- `record`

-- The record of differences, and the log.
pub record WithRecord : Type 0 where
  pub differences : List ℤ
  pub log : Log

-- "adds differences to the item's record", words in two's complement; "`record D ..`, what was added"
unfoldable pub record_line : List ℕ → WithRecord → WithRecord
record_line ws s =
    let kept = kept_each (map signed_of ws) record { values = s.differences; used = get_or s.log.counts 10 0 } in record {
      differences = kept.values;
      log = said (record_texts ws) record { counts = set s.log.counts 10 kept.used; answers = s.log.answers };
    }

-- "without any D, the TOF_DIFF of E2h and E3h as it stands"
unfoldable pub tof_diff : Model → ℕ
tof_diff m = joined_word (read_word m 0xE2) (read_word m 0xE3)

unfoldable pub record_words : Model → List ℕ → ℕ → List ℕ
record_words m numbers n = cond (eqb n 0) (tof_diff m ∷ []) (take n numbers)

-- ---- `listing`

-- "printed in eight digits, or with `old` in two"
unfoldable pub width_of : Bool → Width
width_of old = cond old Width.Two Width.Eight

-- the lines from a place of the buffer on; number 21 where the buffer has no such place
unfoldable pub listed_at : ℕ → List ℤ → ℕ → List ℕ → ℕ → Outcome
listed_at d values first l at =
    cond (leb at (length l))
    (let o = listing d values first (drop at l) in record { answer = o.answer; bytes = take at l ++ o.bytes })
    record { answer = Err Refusal.ShortListing; bytes = l }

unfoldable pub listing_told : Result ℕ Refusal → ℕ → Log → Log
listing_told (Ok n) at l = record { counts = counted l.counts 0 (min (at + n) 18446744073709551615); answers = l.answers }
listing_told (Err r) at l = called 1 (listing_refused (number r)) l

-- "`listing K`, then the K lines, or `listing no 20 capture number`": the lines stand behind their head; a refusal takes its place
unfoldable pub listing_line : Bool → ℕ → List ℤ → Log → Log
listing_line old first kept l =
    let used = get_or l.counts 10 0 in
    let head = put (listing_head used) l in
    let o = listed_at (capture_digits (width_of old)) (take used kept) first head.bytes head.next in
    listing_told o.answer head.next record { counts = l.counts; answers = o.bytes }

-- ---- `quietest`

-- "`quietest START SPREAD`, START from 0, SPREAD the largest less the smallest; or `quietest no 18 width`"
unfoldable pub quietest_told : Result ℕ Refusal → List ℤ → ℕ → Log → Log
quietest_told (Ok start) values width l = called 0 (quietest start (run_spread (take width (drop start values)))) l
quietest_told (Err r) values width l = called 1 (quietest_refused (number r)) l

-- "the run of W neighbours in the record that differ least, the earliest of equals"
unfoldable pub quietest_line : ℕ → List ℤ → Log → Log
quietest_line width kept l = let values = take (get_or l.counts 10 0) kept in quietest_told (quietest_place values width) values width l

-- ---- every line

-- What an item keeps beside its model.
pub record ItemKept : Type 0 where
  pub differences : List ℤ
  pub probes : List ℕ
  pub log : Log

abbrev pub with_log : ItemKept → Log → ItemKept
with_log s l = record { differences = s.differences; probes = s.probes; log = l }

abbrev pub with_probes : ItemKept → WithProbes → ItemKept
with_probes s p = record { differences = s.differences; probes = p.probes; log = p.log }

abbrev pub with_record : ItemKept → WithRecord → ItemKept
with_record s r = record { differences = r.differences; probes = s.probes; log = r.log }

-- What such a line leaves; every other leaves all as it is. The line's numbers stand in a buffer.
unfoldable pub analysis_line : Content → List ℕ → Model → ItemKept → ItemKept
analysis_line Content.Nothing numbers m s = s
analysis_line Content.TooLong numbers m s = s
analysis_line Content.UnknownWord numbers m s = s
analysis_line Content.BadNumber numbers m s = s
analysis_line Content.WrongCount numbers m s = s
analysis_line Content.Item numbers m s = s
analysis_line (Content.Bus n) numbers m s = s
analysis_line (Content.BusOut size n) numbers m s = s
analysis_line (Content.Tick n) numbers m s = s
analysis_line (Content.Flight up down) numbers m s = s
analysis_line (Content.Temperature n) numbers m s = s
analysis_line Content.Int numbers m s = s
analysis_line Content.Awaited numbers m s = s
analysis_line Content.Regs numbers m s = s
analysis_line (Content.Expect a n) numbers m s = s
analysis_line Content.Show numbers m s = s
analysis_line (Content.Set a n) numbers m s = s
analysis_line (Content.At t) numbers m s = s
analysis_line (Content.Stretch n) numbers m s = s
analysis_line Content.Frames numbers m s = s
analysis_line (Content.Probe n) numbers m s = with_probes s (probe_line (take n numbers) record { probes = s.probes; log = s.log })
analysis_line Content.Degrees numbers m s = with_log s (degrees_line numbers s.probes s.log)
analysis_line (Content.Record n) numbers m s = with_record s (record_line (record_words m numbers n) record { differences = s.differences; log = s.log })
analysis_line (Content.Listing old first) numbers m s = with_log s (listing_line old first s.differences s.log)
analysis_line (Content.Quietest n) numbers m s = with_log s (quietest_line n s.differences s.log)
