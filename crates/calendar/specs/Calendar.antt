-- The calendar of document 01: validity, and the clock one tick later.
use Rattle.std.specs.Prelude.{ℕ, ◌+◌, ◌%◌, Bool, false, ltb, leb, eqb}
use Rattle.unit.specs.Choice.{pick, negate}
use Rattle.calendar.specs.declared.Clock.{Clock}

-- "each year divisible by 4 is a leap year"; years count from 2000
unfoldable pub leap : ℕ → Bool
leap year = eqb (year % 4) 0

-- "the month's length"
unfoldable pub month_length : ℕ → ℕ → ℕ
month_length year month =
    pick (eqb month 2)
    (pick (leap year) 29 28)
    (pick (eqb month 4) 30 (pick (eqb month 6) 30 (pick (eqb month 9) 30 (pick (eqb month 11) 30 31))))

-- "months 1 to 12, dates 1 to the month's length, weekday as above" (1 to 7); "Years are 2000 to 2099"
unfoldable pub date_fits : Clock → Bool
date_fits c =
    pick (ltb 99 c.year) false
    (pick (ltb c.month 1) false
    (pick (ltb 12 c.month) false
    (pick (ltb c.date 1) false
    (pick (ltb (month_length c.year c.month) c.date) false
    (pick (ltb c.weekday 1) false
    (negate (ltb 7 c.weekday)))))))

-- "seconds and minutes to 59, hours to 23"; "The second holds s ticks, 0 to 32,767"
unfoldable pub time_fits : Clock → Bool
time_fits c =
    pick (ltb 23 c.hour) false
    (pick (ltb 59 c.minute) false
    (pick (ltb 59 c.second) false
    (negate (ltb 32767 c.ticks.0))))

unfoldable pub clock_valid : Clock → Bool
clock_valid c = pick (date_fits c) (time_fits c) false

-- "clock 2000-01-01 00:00:00.00, weekday 1"; not yet written, it has 24-hour form: 000's Table 5 gives 31h as 0000h
unfoldable pub start : Clock
start =
    record {
      year = 0;
      month = 1;
      date = 1;
      weekday = 1;
      hour = 0;
      minute = 0;
      second = 0;
      ticks = record { 0 = 0 };
      twelve = false;
    }

-- Setters: the clock with some fields anew. "A clock keeps the form it was last written in." (Note 2)
abbrev pub with_date : Clock → ℕ → ℕ → ℕ → ℕ → Clock
with_date c y m d w =
    record {
      year = y;
      month = m;
      date = d;
      weekday = w;
      hour = c.hour;
      minute = c.minute;
      second = c.second;
      ticks = c.ticks;
      twelve = c.twelve;
    }

abbrev pub with_time : Clock → ℕ → ℕ → ℕ → ℕ → Clock
with_time c h m s t =
    record {
      year = c.year;
      month = c.month;
      date = c.date;
      weekday = c.weekday;
      hour = h;
      minute = m;
      second = s;
      ticks = record { 0 = t };
      twelve = c.twelve;
    }

-- "Years are 2000 to 2099, then 2000 again"
unfoldable pub next_year : Clock → Clock
next_year c =
    pick (leb 99 c.year) (with_date c 0 c.month c.date c.weekday)
    (with_date c (c.year + 1) c.month c.date c.weekday)

unfoldable pub next_month : Clock → Clock
next_month c =
    pick (leb 12 c.month) (next_year (with_date c c.year 1 c.date c.weekday))
    (with_date c c.year (c.month + 1) c.date c.weekday)

-- "Weekday steps at midnight, 7 to 1"
unfoldable pub next_weekday : ℕ → ℕ
next_weekday w = pick (leb 7 w) 1 (w + 1)

unfoldable pub next_date : Clock → Clock
next_date c =
    pick (leb (month_length c.year c.month) c.date)
    (next_month (with_date c c.year c.month 1 (next_weekday c.weekday)))
    (with_date c c.year c.month (c.date + 1) (next_weekday c.weekday))

unfoldable pub next_hour : Clock → Clock
next_hour c =
    pick (leb 23 c.hour) (next_date (with_time c 0 c.minute c.second c.ticks.0))
    (with_time c (c.hour + 1) c.minute c.second c.ticks.0)

unfoldable pub next_minute : Clock → Clock
next_minute c =
    pick (leb 59 c.minute) (next_hour (with_time c c.hour 0 c.second c.ticks.0))
    (with_time c c.hour (c.minute + 1) c.second c.ticks.0)

unfoldable pub next_second : Clock → Clock
next_second c =
    pick (leb 59 c.second) (next_minute (with_time c c.hour c.minute 0 c.ticks.0))
    (with_time c c.hour c.minute (c.second + 1) c.ticks.0)

-- "The second holds s ticks, 0 to 32,767": one tick more, and a carry after the last
unfoldable pub tick_clock : Clock → Clock
tick_clock c =
    pick (leb 32767 c.ticks.0) (next_second (with_time c c.hour c.minute c.second 0))
    (with_time c c.hour c.minute c.second (c.ticks.0 + 1))
