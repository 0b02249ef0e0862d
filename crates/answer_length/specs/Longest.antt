-- How many bytes the answer of one line has at most, and of which states that is said. Assumes nothing.
use Rattle.std.specs.Prelude.{ℕ, ◌≤◌, ◌<◌, ◌≡◌, cond, List, ℤ, pos, nat_abs, length, get_or}
use Rattle.line.specs.declared.Content.{Content}
use Rattle.item_state.specs.Log.{Log}
use Rattle.item_calls.specs.Lines.{WithFlash}
use Rattle.answer_text.specs.Texts.{is_listing}

-- A listing is the longest: 4,096 lines of 23 bytes and the first one. Then a part of a line of ticks: 64 stretches of 448 bytes.
unfoldable pub longest : Content → ℕ
longest content = cond (is_listing content) 94240 28700

-- What the types and the places of the program's buffers give: the lengths are those of the invariant of `replay` in session. Every
-- other number, as how many entries or ticks there are, does not count here: no decimal has more than 20 digits.
pub record Small (numbers : List ℕ) (s : WithFlash) (differences : List ℤ) : Type 0 where
  -- a line's numbers stand in a [u32; 512]
  pub numbers_few : length numbers ≤ 512
  -- the record is an [i32; 4096]
  pub differences_few : length differences ≤ 4096
  pub differences_fit : (k : ℕ) → k < length differences → nat_abs (get_or differences k (pos 0)) ≤ 2147483648
  -- the ticks until an event's next start are a u32, which `show` prints
  pub flight_wait : s.model.flight.schedule.wait.0 < 4294967296
  pub temperature_wait : s.model.temperature.schedule.wait.0 < 4294967296

-- A log as an answer finds it: a buffer of 163,840 places. At most 49,152 of them are used when a line begins, so that the longest answer
-- leaves 20,448 for what stands around it, which is all counted before it here.
pub record Roomy (l : Log) : Type 0 where
  -- there are counts, the first of which is where the answers end
  pub some : 0 < length l.counts
  pub used : get_or l.counts 0 0 ≤ 69600
  pub places : length l.answers ≡ 163840
