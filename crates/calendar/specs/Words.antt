-- The words of registers 30h to 33h, and of the alarm 35h, which has 31h's layout.
use Rattle.std.specs.Prelude.{ℕ, ◌+◌, ◌*◌, ◌/◌, ◌%◌, Bool, false, ltb, leb, eqb}
use Rattle.unit.specs.Choice.{pick, negate}
use Rattle.unit.specs.Bits.{bits, is_set}
use Rattle.unit.specs.declared.Ticks.{Ticks}
use Rattle.calendar.specs.declared.Clock.{Clock}
use Rattle.calendar.specs.Calendar.{clock_valid}

-- "All BCD": two decimal digits, four bits each
unfoldable pub bcd : ℕ → ℕ
bcd n = n / 10 % 10 * 16 + n % 10

-- "hundredths read as s × 100 ÷ 32,768 rounded down"
unfoldable pub hundredths_of : Ticks → ℕ
hundredths_of t = t.0 * 100 / 32768

-- "30h tenths, hundredths, ten seconds, seconds (four bits each)"; 000's Table 4 places ten seconds at 6:4 and names bit 7 "0"
unfoldable pub word30 : Clock → ℕ
word30 c = bcd (hundredths_of c.ticks) * 256 + bcd c.second

-- "hours 1 to 12" (Note 2): midnight and noon are 12
unfoldable pub twelve_hour : ℕ → ℕ
twelve_hour hour = pick (eqb (hour % 12) 0) 12 (hour % 12)

-- 24-hour form: "ten hours 5:4, hours 3:0". 12-hour form: "Bit 6 .. may now be 1: bit 5 is then PM, bit 4 ten hours" (Note
-- 2); from noon on it is PM
unfoldable pub hour_digits : Bool → ℕ → ℕ
hour_digits twelve hour =
    pick twelve (pick (leb 12 hour) (0x60 + bcd (twelve_hour hour)) (0x40 + bcd (twelve_hour hour))) (bcd hour)

-- "31h ten minutes 14:12, minutes 11:8", and the hours in the clock's form
unfoldable pub word31 : Clock → ℕ
word31 c = bcd c.minute * 256 + hour_digits c.twelve c.hour

-- "32h weekday 10:8 (1 to 7), ten dates 5:4, dates 3:0"
unfoldable pub word32 : Clock → ℕ
word32 c = c.weekday % 8 * 256 + bcd c.date

-- "33h ten months 12, months 11:8, ten years 7:4, years 3:0"
unfoldable pub word33 : Clock → ℕ
word33 c = bcd c.month * 256 + bcd c.year

-- The minutes in a written word of 31h or 35h: "ten minutes 14:12, minutes 11:8". Here and below, bits that 000 names 0 are passed
-- over: "ignored and read 0".
unfoldable pub minute_in : ℕ → ℕ
minute_in w = bits 14 12 w * 10 + bits 11 8 w

-- "Bit 6 of 31h and of 35h" (Note 2): whether the word has 12-hour form
unfoldable pub twelve_in : ℕ → Bool
twelve_in w = is_set 6 w

-- the hour that the digits name: in 12-hour form "bit 4 ten hours" (Note 2), else "ten hours 5:4"
unfoldable pub hour_named : ℕ → ℕ
hour_named w = pick (twelve_in w) (bits 4 4 w * 10 + bits 3 0 w) (bits 5 4 w * 10 + bits 3 0 w)

-- the hour meant, 0 to 23: "bit 5 is then PM"; "12 AM equals 00" (Note 2)
unfoldable pub hour_in : ℕ → ℕ
hour_in w =
    pick (twelve_in w) (pick (is_set 5 w) (hour_named w % 12 + 12) (hour_named w % 12)) (hour_named w)

-- "A write that covers 30h sets s to c × 32,768 ÷ 100 rounded up, c being 10 × its tenths + its hundredths"
unfoldable pub ticks_in : ℕ → Ticks
ticks_in w = record { 0 = ((bits 15 12 w * 10 + bits 11 8 w) * 32768 + 99) / 100 }

unfoldable pub clock_from : ℕ → ℕ → ℕ → ℕ → Ticks → Clock
clock_from w30 w31 w32 w33 t =
    record {
      year = bits 7 4 w33 * 10 + bits 3 0 w33;
      month = bits 12 12 w33 * 10 + bits 11 8 w33;
      date = bits 5 4 w32 * 10 + bits 3 0 w32;
      weekday = bits 10 8 w32;
      hour = hour_in w31;
      minute = minute_in w31;
      second = bits 6 4 w30 * 10 + bits 3 0 w30;
      ticks = t;
      twelve = twelve_in w31;
    }

-- "every digit 0 to 9" of minutes and hours
unfoldable pub time_digits : ℕ → Bool
time_digits w = pick (ltb 9 (bits 11 8 w)) false (negate (ltb 9 (bits 3 0 w)))

-- "Number 7 is no longer given for the bit itself, but for an hour invalid in its form" (Note 2): 12-hour form has "hours 1
-- to 12", 24-hour form "hours to 23"
unfoldable pub hour_fits : ℕ → Bool
hour_fits w =
    pick (twelve_in w) (pick (ltb (hour_named w) 1) false (negate (ltb 12 (hour_named w))))
    (negate (ltb 23 (hour_named w)))

-- "every digit 0 to 9"; a digit of three bits or fewer always is
unfoldable pub digits_fit : ℕ → ℕ → ℕ → ℕ → Bool
digits_fit w30 w31 w32 w33 =
    pick (ltb 9 (bits 15 12 w30)) false
    (pick (ltb 9 (bits 11 8 w30)) false
    (pick (ltb 9 (bits 3 0 w30)) false
    (pick (ltb 9 (bits 3 0 w32)) false
    (pick (ltb 9 (bits 11 8 w33)) false
    (pick (ltb 9 (bits 7 4 w33)) false
    (pick (ltb 9 (bits 3 0 w33)) false (time_digits w31)))))))

-- "Valid means every digit 0 to 9, seconds and minutes to 59, ..": the digits, the hour in its form, and the clock that they
-- give
unfoldable pub words_valid : ℕ → ℕ → ℕ → ℕ → Ticks → Bool
words_valid w30 w31 w32 w33 t =
    pick (digits_fit w30 w31 w32 w33) (pick (hour_fits w31) (clock_valid (clock_from w30 w31 w32 w33 t)) false) false

-- "Alarm 35h has 31h's layout"
unfoldable pub alarm_valid : ℕ → Bool
alarm_valid w = pick (time_digits w) (pick (ltb 59 (minute_in w)) false (hour_fits w)) false
