-- The last tick of a day, in register words: month lengths, leap years, the year after 2099, and the weekday.
use Prim.Native.Nat.{ℕ}
use mathlib.Core.List.{List, [], ◌∷◌, map}
use mathlib.Core.Path.{◌≡◌, refl}
use Rattle.calendar.specs.declared.Clock.{Clock}
use Rattle.calendar.specs.Calendar.{leap, month_length, tick_clock, next_second, next_minute, next_hour, next_date, next_month, next_year, next_weekday}
use Rattle.calendar.specs.Words.{bcd, hundredths_of, word30, word31, word32, word33, hour_digits, minute_in, twelve_in, hour_named, hour_in, clock_from}

-- One tick after 23:59:59, s 32,767, of the date that 32h and 33h give: the clock, and its words.
abbrev day_after : ℕ → ℕ → Clock
day_after w32 w33 = tick_clock (clock_from 0x9959 0x5923 w32 w33 (record { 0 = 32767 }))

abbrev midnight : ℕ → ℕ → List ℕ
midnight w32 w33 =
    let c : Clock = day_after w32 w33 in
    word30 c ∷ word31 c ∷ word32 c ∷ word33 c ∷ []

-- "dates 1 to the month's length"; "each year divisible by 4 is a leap year"; "Weekday steps at midnight, 7 to 1"
pub midnights-pass :
    (midnight 0x0228 0x0223 ≡ 0 ∷ 0 ∷ 0x0301 ∷ 0x0323 ∷ []) ×
    (midnight 0x0328 0x0224 ≡ 0 ∷ 0 ∷ 0x0429 ∷ 0x0224 ∷ []) ×
    (midnight 0x0429 0x0224 ≡ 0 ∷ 0 ∷ 0x0501 ∷ 0x0324 ∷ []) ×
    (midnight 0x0530 0x0426 ≡ 0 ∷ 0 ∷ 0x0601 ∷ 0x0526 ∷ []) ×
    (midnight 0x0631 0x1026 ≡ 0 ∷ 0 ∷ 0x0701 ∷ 0x1126 ∷ []) ×
    (midnight 0x0731 0x1226 ≡ 0 ∷ 0 ∷ 0x0101 ∷ 0x0127 ∷ []) ×
    (midnight 0x0431 0x1299 ≡ 0 ∷ 0 ∷ 0x0501 ∷ 0x0100 ∷ [])
unfolding leap month_length tick_clock next_second next_minute next_hour next_date next_month next_year next_weekday bcd hundredths_of word30 word31 word32 word33 hour_digits minute_in twelve_in hour_named hour_in clock_from
midnights-pass = (refl, refl, refl, refl, refl, refl, refl)

-- "Years are 2000 to 2099, then 2000 again": after December 31 of 2000, 2026, 2098 and 2099
pub years-pass :
    map (λ (w33 : ℕ). (day_after 0x0131 w33).year) (0x1200 ∷ 0x1226 ∷ 0x1298 ∷ 0x1299 ∷ []) ≡ 1 ∷ 27 ∷ 99 ∷ 0 ∷ []
unfolding month_length tick_clock next_second next_minute next_hour next_date next_month next_year minute_in twelve_in hour_named hour_in clock_from
years-pass = refl
