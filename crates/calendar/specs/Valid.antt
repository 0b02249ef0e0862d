-- What words of 30h to 33h and of 35h are valid, and the time of day that a word of 35h means: in bit fields and plain bounds.
-- Quotations are from 01.
use Rattle.std.specs.Prelude.{ℕ, ◌+◌, ◌*◌, ◌/◌, ◌%◌, ◌≤◌, ◌≡◌}
use Rattle.calendar.specs.Calendar.{month_length}

-- Bit 6 set: "bit 5 is then PM, bit 4 ten hours, hours 1 to 12" (Note 2). Else "ten hours 5:4, hours 3:0", "hours to 23".
pub record HourValid (w : ℕ) : Type 0 where
  pub half-day : w / 64 % 2 ≡ 1 → (1 ≤ w / 16 % 2 * 10 + w % 16) × (w / 16 % 2 * 10 + w % 16 ≤ 12)
  pub full-day : w / 64 % 2 ≡ 0 → w / 16 % 4 * 10 + w % 16 ≤ 23

-- "every digit 0 to 9": those of four bits
pub record DigitsValid (w30 w31 w32 w33 : ℕ) : Type 0 where
  pub tenths : w30 / 4096 % 16 ≤ 9
  pub hundredths : w30 / 256 % 16 ≤ 9
  pub seconds : w30 % 16 ≤ 9
  pub minutes : w31 / 256 % 16 ≤ 9
  pub hours : w31 % 16 ≤ 9
  pub dates : w32 % 16 ≤ 9
  pub months : w33 / 256 % 16 ≤ 9
  pub ten-years : w33 / 16 % 16 ≤ 9
  pub years : w33 % 16 ≤ 9

-- "Valid means every digit 0 to 9, seconds and minutes to 59, hours to 23, months 1 to 12, dates 1 to the month's length,
-- weekday as above" (1 to 7: three bits hold no more). `leap-months` and `common-months` give the lengths as tables.
pub record CalendarValid (w30 w31 w32 w33 : ℕ) : Type 0 where
  pub digits : DigitsValid w30 w31 w32 w33
  pub second : w30 / 16 % 8 * 10 + w30 % 16 ≤ 59
  pub minute : w31 / 4096 % 8 * 10 + w31 / 256 % 16 ≤ 59
  pub hour : HourValid w31
  pub weekday : 1 ≤ w32 / 256 % 8
  pub month-from : 1 ≤ w33 / 4096 % 2 * 10 + w33 / 256 % 16
  pub month : w33 / 4096 % 2 * 10 + w33 / 256 % 16 ≤ 12
  pub date-from : 1 ≤ w32 / 16 % 4 * 10 + w32 % 16
  pub date :
      w32 / 16 % 4 * 10 + w32 % 16
      ≤ month_length (w33 / 16 % 16 * 10 + w33 % 16) (w33 / 4096 % 2 * 10 + w33 / 256 % 16)

-- "Alarm 35h has 31h's layout"; its bits 15 and 7 are kept as written, and mean nothing.
pub record AlarmValid (w : ℕ) : Type 0 where
  pub minutes : w / 256 % 16 ≤ 9
  pub hours : w % 16 ≤ 9
  pub minute : w / 4096 % 8 * 10 + w / 256 % 16 ≤ 59
  pub hour : HourValid w

-- The time of day that a word of 35h means: "Alarm 35h has 31h's layout"; "bit 5 is then PM, bit 4 ten hours, hours 1 to 12";
-- "12 AM equals 00" (Note 2)
pub record AlarmTime (w minute hour : ℕ) : Type 0 where
  pub minutes : minute ≡ w / 4096 % 8 * 10 + w / 256 % 16
  pub half-day : w / 64 % 2 ≡ 1 → hour ≡ w / 32 % 2 * 12 + (w / 16 % 2 * 10 + w % 16) % 12
  pub full-day : w / 64 % 2 ≡ 0 → hour ≡ w / 16 % 4 * 10 + w % 16
