-- The form of what a replay keeps from line to line, and how many ticks a line has to run. Assumes nothing.
use Rattle.std.specs.Prelude.{ℕ, ◌-◌, ◌≤◌, ◌<◌, ◌≡◌, true, cond, List, eqb, pos, nat_abs, length, get_or}
use Rattle.device.specs.declared.Schedule.{Schedule}
use Rattle.device.specs.declared.Model.{Model}
use Rattle.device.specs.Model.{is_sound}
use Rattle.line.specs.declared.Content.{Content}
use Rattle.session.specs.Line.{Replay}

-- The ticks until a kind's next start, and those between two starts, are words of 32 bits. Soundness does not say so: it has no largest
-- period.
pub record Timely (k : Schedule) : Type 0 where
  pub wait : k.wait.0 < 4294967296
  pub period : k.period.0 < 4294967296

pub record Waits (m : Model) : Type 0 where
  pub flight : Timely m.flight.schedule
  pub temperature : Timely m.temperature.schedule

-- What holds before every line and behind it: the places of the program's buffers, a sound model, and a record of 32 bits.
pub record InForm (r : Replay) : Type 0 where
  pub counts : length r.state.log.counts ≡ 22
  pub places : length r.state.log.answers ≡ 163840
  -- the file's name in the first 4,096 places, the item's in the others
  pub names : length r.names ≡ 5120
  pub sound : is_sound r.state.model ≡ true
  pub waits : Waits r.state.model
  pub many : length r.state.differences ≡ 4096
  pub fit : (k : ℕ) → k < length r.state.differences → nat_abs (get_or r.state.differences k (pos 0)) ≤ 2147483648

-- The buffer of a line's numbers: 512 words of 32 bits.
pub record NumbersFit (numbers : List ℕ) : Type 0 where
  pub few : length numbers ≡ 512
  pub fit : (k : ℕ) → k < length numbers → get_or numbers k 0 < 4294967296

-- The ticks that a line has to run in parts of 1,048,576, by the counts before it: count 9 is the moment. `tick 1` is answered by one
-- tick and has no parts; `at` a moment that has passed is a bad line and runs none.
unfoldable pub ticks_of : Content → List ℕ → ℕ
ticks_of Content.Nothing counts = 0
ticks_of Content.TooLong counts = 0
ticks_of Content.UnknownWord counts = 0
ticks_of Content.BadNumber counts = 0
ticks_of Content.WrongCount counts = 0
ticks_of Content.Item counts = 0
ticks_of (Content.Bus n) counts = 0
ticks_of (Content.BusOut size n) counts = 0
ticks_of (Content.Tick n) counts = cond (eqb n 1) 0 n
ticks_of (Content.Flight up down) counts = 0
ticks_of (Content.Temperature n) counts = 0
ticks_of Content.Int counts = 0
ticks_of Content.Awaited counts = 0
ticks_of Content.Regs counts = 0
ticks_of (Content.Expect a n) counts = 0
ticks_of Content.Show counts = 0
ticks_of (Content.Set a n) counts = 0
ticks_of (Content.At t) counts = t - get_or counts 9 0
ticks_of (Content.Stretch n) counts = 0
ticks_of Content.Frames counts = 0
ticks_of (Content.Probe n) counts = 0
ticks_of Content.Degrees counts = 0
ticks_of (Content.Record n) counts = 0
ticks_of (Content.Listing old first) counts = 0
ticks_of (Content.Quietest n) counts = 0

-- what is left of them behind the line's first part
unfoldable pub ticks_left : Content → List ℕ → ℕ
ticks_left content counts = ticks_of content counts - 1048576
