-- Where each digit of a valid clock stands in 30h to 33h, and what valid words read back as. A place is a power of 2: bit 4
-- is 16, bit 8 is 256, bit 12 is 4096.
use Prim.Native.Nat.{ℕ, ◌+◌, ◌*◌, ◌/◌, ◌%◌, ◌≤◌}
use mathlib.Core.Bool.{true, false}
use mathlib.Core.Path.{◌≡◌}
use native.Mathlib.Omega.{arith}
use Rattle.unit.specs.declared.Ticks.{Ticks}
use Rattle.calendar.specs.declared.Clock.{Clock}
use Rattle.calendar.specs.Calendar.{clock_valid}
use Rattle.calendar.specs.Words.{bcd, twelve_hour, hundredths_of, word30, word31, word32, word33, clock_from, words_valid}
use Rattle.unit.proofs.Cases.{by_eqb}
use Rattle.calendar.proofs.Laws.{bounds, month-length}
use Rattle.calendar.proofs.Hours.{bcd-digits, half-digits, full-digits}
use Rattle.calendar.proofs.Validity.{words-mean}
use Rattle.calendar.proofs.RoundTrip.{round_trip, words-valid, time-back}
use Rattle.calendar.proofs.Facts.{hundredths_in}

-- "hours 1 to 12" (Note 2): 12 at midnight and at noon
half-shown : (h : ℕ) → twelve_hour h ≡ (h + 11) % 12 + 1
unfolding twelve_hour
half-shown h = by_eqb (h % 12) 0 (λ z e. rw e (omega arith)) (λ z e. rw e (omega arith))

two_digits : (h : ℕ) → h ≤ 99 → h ≡ h / 10 % 16 * 10 + (h / 10 * 16 + h % 10) % 16
two_digits h b = let e : (h / 10 * 16 + h % 10) % 16 ≡ h % 10 = omega arith in rw e (omega arith)

module _ (c : Clock) (v : clock_valid c ≡ true) where
  -- "30h tenths, hundredths, ten seconds, seconds"; "hundredths read as s × 100 ÷ 32,768 rounded down"
  pub seconds-shown :
      let h : ℕ = c.ticks.0 * 100 / 32768 in
      word30 c ≡ h / 10 * 4096 + h % 10 * 256 + c.second / 10 * 16 + c.second % 10
  unfolding word30 hundredths_of
  seconds-shown =
      let b = bounds c v in
      rw (bcd-digits (c.ticks.0 * 100 / 32768) (omega arith), bcd-digits c.second (omega arith)) (omega arith)

  -- "31h ten minutes 14:12, minutes 11:8, ten hours 5:4, hours 3:0"
  pub full-time-shown :
      c.twelve ≡ false →
      word31 c ≡ c.minute / 10 * 4096 + c.minute % 10 * 256 + c.hour / 10 * 16 + c.hour % 10
  unfolding word31
  full-time-shown f =
      let b = bounds c v in
      rw (f, bcd-digits c.minute (omega arith), full-digits c.hour b.hour) (omega arith)

  -- "bit 5 is then PM, bit 4 ten hours, hours 1 to 12" (Note 2), under bit 6
  pub half-time-shown :
      c.twelve ≡ true →
      let n : ℕ = (c.hour + 11) % 12 + 1 in
      word31 c
      ≡ c.minute / 10 * 4096 + c.minute % 10 * 256 + 64 + c.hour / 12 * 32 + n / 10 * 16 + n % 10
  unfolding word31
  half-time-shown f =
      let b = bounds c v in
      rw (f, bcd-digits c.minute (omega arith), half-digits c.hour b.hour, half-shown c.hour)
      (omega arith)

  -- "32h weekday 10:8 (1 to 7), ten dates 5:4, dates 3:0"
  pub date-shown : word32 c ≡ c.weekday * 256 + c.date / 10 * 16 + c.date % 10
  unfolding word32
  date-shown =
      let b = bounds c v in
      let l = month-length c.year c.month in
      rw (bcd-digits c.date (omega arith)) (omega arith)

  -- "33h ten months 12, months 11:8, ten years 7:4, years 3:0"
  pub year-shown : word33 c ≡ c.month / 10 * 4096 + c.month % 10 * 256 + c.year / 10 * 16 + c.year % 10
  unfolding word33
  year-shown =
      let b = bounds c v in
      rw (bcd-digits c.month (omega arith), bcd-digits c.year (omega arith)) (omega arith)

  -- so the ticks give the hundredths that the clock's own 30h holds
  pub hundredths-held : hundredths_of c.ticks ≡ hundredths_in (word30 c)
  unfolding hundredths_of
  hundredths-held =
      let b = bounds c v in
      let h : ℕ = c.ticks.0 * 100 / 32768 in
      let e : word30 c / 256 ≡ h / 10 * 16 + h % 10 = omega (arith, seconds-shown) in
      let f : word30 c / 4096 ≡ h / 10 = omega arith in
      rw (e, f) (two_digits h (omega arith))

-- "Reserved bits are .. ignored and read 0": bit 7 of 30h, bits 15 and 7 of 31h, 15:11 and 7:6 of 32h, 15:13 of 33h
pub record ReadsBack (c : Clock) (w30 w31 w32 w33 : ℕ) : Type 0 where
  pub seconds : word30 c ≡ w30 / 256 % 256 * 256 + w30 % 128
  pub time : word31 c ≡ w31 / 256 % 128 * 256 + w31 % 128
  pub date : word32 c ≡ w32 / 256 % 8 * 256 + w32 % 64
  pub year : word33 c ≡ w33 % 8192

-- Two digits are read back, the upper of one to four bits.
back : (t o : ℕ) → t ≤ 9 → o ≤ 9 → bcd (t * 10 + o) ≡ t * 16 + o
unfolding bcd
back t o h k = omega arith

low_bits :
    (n : ℕ) →
    (n / 16 % 2 * 16 + n % 16 ≡ n % 32) × (n / 16 % 8 * 16 + n % 16 ≡ n % 128) × (n / 16 % 16 * 16 + n % 16 ≡ n % 256)
low_bits n = omega arith

seconds-bits :
    (w : ℕ) →
    (w / 4096 % 16 * 16 + w / 256 % 16) * 256 + (w / 16 % 8 * 16 + w % 16) ≡ w / 256 % 256 * 256 + w % 128
seconds-bits w =
    let r : w / 4096 ≡ w / 256 / 16 = omega arith in
    rw (r, (low_bits (w / 256)).2, (low_bits w).1)

year-bits :
    (w : ℕ) → (w / 4096 % 2 * 16 + w / 256 % 16) * 256 + (w / 16 % 16 * 16 + w % 16) ≡ w % 8192
year-bits w =
    let r : w / 4096 ≡ w / 256 / 16 = omega arith in
    rw (r, (low_bits (w / 256)).0, (low_bits w).2) (omega arith)

-- Valid words read back, where the second's ticks give the hundredths of 30h.
pub words_back :
    (w30 w31 w32 w33 : ℕ) (t : Ticks) →
    words_valid w30 w31 w32 w33 t ≡ true →
    hundredths_of t ≡ hundredths_in w30 →
    ReadsBack (clock_from w30 w31 w32 w33 t) w30 w31 w32 w33
unfolding word30 word32 word33 clock_from
words_back w30 w31 w32 w33 t e h =
    let (v, _) = (words-mean w30 w31 w32 w33 t).0 e in
    let d = v.digits in
    record {
      seconds =
          rw (
            h,
            back (w30 / 4096 % 16) (w30 / 256 % 16) d.tenths d.hundredths,
            back (w30 / 16 % 8) (w30 % 16) (omega arith) d.seconds,
          )
          (seconds-bits w30);
      time = time-back w30 w31 w32 w33 t e;
      date = rw (back (w32 / 16 % 4) (w32 % 16) (omega arith) d.dates) (omega arith);
      year =
          rw (
            back (w33 / 4096 % 2) (w33 / 256 % 16) (omega arith) d.months,
            back (w33 / 16 % 16) (w33 % 16) d.ten-years d.years,
          )
          (year-bits w33);
    }

-- A clock's own words have no reserved bit.
pub own-words : (c : Clock) → clock_valid c ≡ true → ReadsBack c (word30 c) (word31 c) (word32 c) (word33 c)
own-words c v =
    rw (round_trip c v) at
    (words_back (word30 c) (word31 c) (word32 c) (word33 c) c.ticks (words-valid c v) (hundredths-held c v))
