-- Lines that are no calls. What stands in quotation marks is that of docs/ITEMS.md. Assumes nothing.
use Rattle.std.specs.Prelude.{ℕ, ◌+◌, min, Bool, true, false, cond, List, eqb, ltb, get_or}
use Rattle.line.specs.declared.Content.{Content}
use Rattle.wording.specs.Wording.{fault}
use Rattle.item_state.specs.Log.{Log, added, said}

-- "without any D, the TOF_DIFF of E2h and E3h": one difference
unfoldable pub at_least_one : ℕ → ℕ
at_least_one n = cond (eqb n 0) 1 n

-- "`at` a moment that has passed"; "the record or the probe table would get more than it holds"
unfoldable pub is_past_or_full : Content → List ℕ → Bool
is_past_or_full Content.Nothing counts = false
is_past_or_full Content.TooLong counts = false
is_past_or_full Content.UnknownWord counts = false
is_past_or_full Content.BadNumber counts = false
is_past_or_full Content.WrongCount counts = false
is_past_or_full Content.Item counts = false
is_past_or_full (Content.Bus n) counts = false
is_past_or_full (Content.BusOut size n) counts = false
is_past_or_full (Content.Tick n) counts = false
is_past_or_full (Content.Flight up down) counts = false
is_past_or_full (Content.Temperature n) counts = false
is_past_or_full Content.Int counts = false
is_past_or_full Content.Awaited counts = false
is_past_or_full Content.Regs counts = false
is_past_or_full (Content.Expect a n) counts = false
is_past_or_full Content.Show counts = false
is_past_or_full (Content.Set a n) counts = false
is_past_or_full (Content.At t) counts = ltb t (get_or counts 9 0)
is_past_or_full (Content.Stretch n) counts = false
is_past_or_full Content.Frames counts = false
is_past_or_full (Content.Probe n) counts = ltb 1024 (min (get_or counts 11 0 + n) 18446744073709551615)
is_past_or_full Content.Degrees counts = false
is_past_or_full (Content.Record n) counts = ltb 4096 (min (get_or counts 10 0 + at_least_one n) 18446744073709551615)
is_past_or_full (Content.Listing old first) counts = false
is_past_or_full (Content.Quietest n) counts = false

-- "A line that is none of these is no call"
unfoldable pub is_fault : Content → List ℕ → Bool
is_fault Content.Nothing counts = is_past_or_full Content.Nothing counts
is_fault Content.TooLong counts = true
is_fault Content.UnknownWord counts = true
is_fault Content.BadNumber counts = true
is_fault Content.WrongCount counts = true
is_fault Content.Item counts = is_past_or_full Content.Item counts
is_fault (Content.Bus n) counts = is_past_or_full (Content.Bus n) counts
is_fault (Content.BusOut size n) counts = is_past_or_full (Content.BusOut size n) counts
is_fault (Content.Tick n) counts = is_past_or_full (Content.Tick n) counts
is_fault (Content.Flight up down) counts = is_past_or_full (Content.Flight up down) counts
is_fault (Content.Temperature n) counts = is_past_or_full (Content.Temperature n) counts
is_fault Content.Int counts = is_past_or_full Content.Int counts
is_fault Content.Awaited counts = is_past_or_full Content.Awaited counts
is_fault Content.Regs counts = is_past_or_full Content.Regs counts
is_fault (Content.Expect a n) counts = is_past_or_full (Content.Expect a n) counts
is_fault Content.Show counts = is_past_or_full Content.Show counts
is_fault (Content.Set a n) counts = is_past_or_full (Content.Set a n) counts
is_fault (Content.At t) counts = is_past_or_full (Content.At t) counts
is_fault (Content.Stretch n) counts = is_past_or_full (Content.Stretch n) counts
is_fault Content.Frames counts = is_past_or_full Content.Frames counts
is_fault (Content.Probe n) counts = is_past_or_full (Content.Probe n) counts
is_fault Content.Degrees counts = is_past_or_full Content.Degrees counts
is_fault (Content.Record n) counts = is_past_or_full (Content.Record n) counts
is_fault (Content.Listing old first) counts = is_past_or_full (Content.Listing old first) counts
is_fault (Content.Quietest n) counts = is_past_or_full (Content.Quietest n) counts

-- what of a line is still to be answered
unfoldable pub left_of : Content → List ℕ → Content
left_of content counts = cond (is_fault content counts) Content.Nothing content

-- "the answer is `line L: ` and one of six texts, L being the line's number"
unfoldable pub fault_said : Content → Log → Log
fault_said content l =
    let counts = added l.counts 6 1 in said (fault (get_or counts 2 0) content) record { counts = counts; answers = l.answers }

unfoldable pub fault_log : Content → Log → Log
fault_log content l = cond (is_fault content l.counts) (fault_said content l) l
