-- For proofs alone: the clock many ticks later, and the bounds of a valid clock as plain arithmetic.
use Rattle.std.specs.Prelude.{ℕ, zero, suc, ◌-◌, ◌≤◌}
use Rattle.calendar.specs.declared.Clock.{Clock}
use Rattle.calendar.specs.Calendar.{month_length, tick_clock}

-- The clock n ticks later.
unfoldable pub after_ticks : ℕ → Clock → Clock
after_ticks zero c = c
after_ticks (suc n) c = tick_clock (after_ticks n c)

-- The bounds of a valid clock, as plain arithmetic.
pub record Bounds (c : Clock) : Type 0 where
  pub year : c.year ≤ 99
  pub month-from : 1 ≤ c.month
  pub month : c.month ≤ 12
  pub date-from : 1 ≤ c.date
  pub date : c.date ≤ month_length c.year c.month
  pub weekday-from : 1 ≤ c.weekday
  pub weekday : c.weekday ≤ 7
  pub hour : c.hour ≤ 23
  pub minute : c.minute ≤ 59
  pub second : c.second ≤ 59
  pub ticks : c.ticks.0 ≤ 32767
