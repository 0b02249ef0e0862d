-- The clock's moment.
use Rattle.std.specs.Prelude.{ℕ, zero, suc, ◌+◌, ◌-◌, ◌*◌, ◌/◌}
use Rattle.calendar.specs.declared.Clock.{Clock}
use Rattle.calendar.specs.Calendar.{month_length}

-- The days of a year's first months.
unfoldable pub first_months : ℕ → ℕ → ℕ
first_months year zero = 0
first_months year (suc n) = first_months year n + month_length year (suc n)

-- The days from 2000-01-01 to a date: those of the years before, one more for each leap year among them,
-- those of the year's months before, and those of the month before the date.
unfoldable pub day_number : ℕ → ℕ → ℕ → ℕ
day_number year month date = year * 365 + (year + 3) / 4 + first_months year (month - 1) + (date - 1)

-- 32,768 ticks a second
abbrev pub day_ticks : ℕ
day_ticks = 86400 * 32768

-- "moments are compared modulo 36,525 days"
abbrev pub century : ℕ
century = 36525 * day_ticks

-- The ticks since midnight.
unfoldable pub time_ticks : Clock → ℕ
time_ticks c = ((c.hour * 60 + c.minute) * 60 + c.second) * 32768 + c.ticks.0

-- "The clock's moment is the number of ticks from 2000-01-01 00:00:00, s 0, to its date, time and s"
unfoldable pub moment : Clock → ℕ
moment c = day_number c.year c.month c.date * day_ticks + time_ticks c

-- "each midnight passed" in the n ticks after the clock
unfoldable pub midnights : Clock → ℕ → ℕ
midnights c n = (moment c + n) / day_ticks - moment c / day_ticks
