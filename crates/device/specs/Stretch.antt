-- A stretch of ticks. Quotations are from Note 1 of the change requests.
use Rattle.std.specs.Prelude.{ℕ, zero, suc, ◌+◌, Bool}
use Rattle.device.specs.Base.{pick, Schedule, Model, StretchReport}
use Rattle.device.specs.Event.{ticks, begins, fails, tick_schedule}
use Rattle.device.specs.Tick.{tick_model}

-- "moves the caller's own model by n ticks .. with the same end as n single ticks"
unfoldable pub model_ticked : ℕ → Model → Model
model_ticked zero m = m
model_ticked (suc n) m = tick_model (model_ticked n m)

-- The schedule of a kind after n ticks.
unfoldable pub schedule_ticked : ℕ → Schedule → Schedule
schedule_ticked zero k = k
schedule_ticked (suc n) k = tick_schedule (schedule_ticked n k)

-- The last tick, 1 to n, that does what the test asks of the schedule before it, or 0.
unfoldable pub last_tick : (Schedule → Bool) → Schedule → ℕ → ℕ
last_tick test k zero = 0
last_tick test k (suc n) = pick (test (schedule_ticked n k)) (n + 1) (last_tick test k n)

-- "names for each kind the tick, 1 to n, at which a measurement started, or 0, and likewise the tick at which one failed;
-- periods are long enough that there is at most one of each"
unfoldable pub stretch_report : Schedule → ℕ → StretchReport
stretch_report k n = record { started = ticks (last_tick begins k n); failed = ticks (last_tick fails k n) }
