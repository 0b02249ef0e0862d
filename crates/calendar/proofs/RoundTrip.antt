-- A valid clock is read back from its own register words, in the form that it has, and a valid word of 31h from its clock.
use Prim.Native.Nat.{ℕ, ◌+◌, ◌*◌, ◌/◌, ◌%◌, ◌≤◌, ◌<◌}
use mathlib.Core.Bool.{true}
use mathlib.Core.Path.{◌≡◌}
use native.Mathlib.Omega.{arith}
use Rattle.unit.specs.declared.Ticks.{Ticks}
use Rattle.calendar.specs.declared.Clock.{Clock}
use Rattle.calendar.specs.Calendar.{clock_valid}
use Rattle.calendar.specs.Words.{bcd, hundredths_of, word30, word31, word32, word33, hour_digits, minute_in, twelve_in, clock_from, digits_fit, words_valid}
use Rattle.calendar.specs.Bounds.{Bounds}
use Rattle.calendar.proofs.Laws.{bounds, month-length}
use Rattle.calendar.proofs.Hours.{bcd-digits, bcd-byte, hour-byte, Hour, hour-read, hour-back}
use Rattle.calendar.proofs.Validity.{hour-means, digits-mean, words-mean}

-- Two digits in a word's low byte, and in its high byte.
record Low (w x : ℕ) : Type 0 where
  tens : w / 16 % 16 ≡ x / 10
  ones : w % 16 ≡ x % 10

record High (w x : ℕ) : Type 0 where
  tens : w / 4096 % 16 ≡ x / 10
  ones : w / 256 % 16 ≡ x % 10

low : (a x : ℕ) → x ≤ 99 → Low (a * 256 + bcd x) x
low a x h =
    rw (bcd-digits x h)
    (let e : (a * 256 + (x / 10 * 16 + x % 10)) / 16 ≡ a * 16 + x / 10 = omega arith in
    record { tens = rw e (omega arith); ones = omega arith })

high : (x y : ℕ) → x ≤ 99 → y ≤ 255 → High (bcd x * 256 + y) x
high x y h k =
    rw (bcd-digits x h)
    (let e : ((x / 10 * 16 + x % 10) * 256 + y) / 256 ≡ x / 10 * 16 + x % 10 = omega arith in
    let f : ((x / 10 * 16 + x % 10) * 256 + y) / 4096 ≡ x / 10 = omega arith in
    record { tens = rw f (omega arith); ones = rw e (omega arith) })

byte : (x : ℕ) → bcd x ≤ 255
byte x = omega (arith, bcd-byte x)

above : (w y : ℕ) → w ≤ 7 → y ≤ 255 → (w % 8 * 256 + y) / 256 % 8 ≡ w
above w y h k =
    let e : (w % 8 * 256 + y) / 256 ≡ w = omega arith in
    rw e (omega arith)

-- The lower bits of a digit, where they are all of it.
record Bits (n k : ℕ) : Type 0 where
  one : k ≤ 1 → n % 2 ≡ k
  two : k ≤ 3 → n % 4 ≡ k
  three : k ≤ 7 → n % 8 ≡ k

bits : (n k : ℕ) → n % 16 ≡ k → Bits n k
bits n k e =
    record {
      one = λ h. let f : n % 2 ≡ n % 16 % 2 = omega arith in omega arith;
      two = λ h. let f : n % 4 ≡ n % 16 % 4 = omega arith in omega arith;
      three = λ h. let f : n % 8 ≡ n % 16 % 8 = omega arith in omega arith;
    }

pub hundredths-below : (c : Clock) → Bounds c → hundredths_of c.ticks ≤ 99
unfolding hundredths_of
hundredths-below c b = omega arith

-- A clock's fields, each two digits of one of its words.
record Digits (c : Clock) : Type 0 where
  hundredths : High (word30 c) (hundredths_of c.ticks)
  second : Low (word30 c) c.second
  minute : High (word31 c) c.minute
  hour : Hour (word31 c) c.twelve c.hour
  date : Low (word32 c) c.date
  month : High (word33 c) c.month
  year : Low (word33 c) c.year

digits : (c : Clock) → Bounds c → Digits c
unfolding word30 word31 word32 word33
digits c b =
    let l = month-length c.year c.month in
    record {
      hundredths = high (hundredths_of c.ticks) (bcd c.second) (hundredths-below c b) (byte _);
      second = low _ c.second (omega arith);
      minute =
          high c.minute (hour_digits c.twelve c.hour) (omega arith) (hour-byte c.twelve c.hour);
      hour = hour-read _ c.twelve c.hour b.hour;
      date = low _ c.date (omega arith);
      month = high c.month (bcd c.year) (omega arith) (byte _);
      year = low _ c.year (omega arith);
    }

pub round_trip : (c : Clock) →
    clock_valid c ≡ true →
    clock_from (word30 c) (word31 c) (word32 c) (word33 c) c.ticks ≡ c
unfolding clock_from minute_in
round_trip c v =
    let b = bounds c v in
    let l = month-length c.year c.month in
    let d = digits c b in
    let y : word33 c / 16 % 16 * 10 + word33 c % 16 ≡ c.year = omega (arith, d.year) in
    let m : word33 c / 4096 % 2 * 10 + word33 c / 256 % 16 ≡ c.month =
    omega (arith, d.month, (bits (word33 c / 4096) _ d.month.tens).one (omega arith)) in
    let n : word32 c / 16 % 4 * 10 + word32 c % 16 ≡ c.date =
    omega (arith, d.date, (bits (word32 c / 16) _ d.date.tens).two (omega arith)) in
    let w : word32 c / 256 % 8 ≡ c.weekday =
    unfold word32 in above c.weekday (bcd c.date) b.weekday (byte _) in
    let u : minute_in (word31 c) ≡ c.minute =
    omega (arith, d.minute, (bits (word31 c / 4096) _ d.minute.tens).three (omega arith)) in
    let s : word30 c / 16 % 8 * 10 + word30 c % 16 ≡ c.second =
    omega (arith, d.second, (bits (word30 c / 16) _ d.second.tens).three (omega arith)) in
    λ i.
    record {
      year = y i;
      month = m i;
      date = n i;
      weekday = w i;
      hour = d.hour.hour i;
      minute = u i;
      second = s i;
      ticks = c.ticks;
      twelve = d.hour.form i;
    }

pub reads-form : (c : Clock) → clock_valid c ≡ true → twelve_in (word31 c) ≡ c.twelve
reads-form c v = (digits c (bounds c v)).hour.form

pub digits-fit : (c : Clock) →
    clock_valid c ≡ true →
    digits_fit (word30 c) (word31 c) (word32 c) (word33 c) ≡ true
digits-fit c v =
    let b = bounds c v in
    let d = digits c b in
    let h = hundredths-below c b in
    (digits-mean (word30 c) (word31 c) (word32 c) (word33 c)).1 (omega arith)

pub words-valid : (c : Clock) →
    clock_valid c ≡ true →
    words_valid (word30 c) (word31 c) (word32 c) (word33 c) c.ticks ≡ true
unfolding words_valid
words-valid c v = rw (digits-fit c v, (digits c (bounds c v)).hour.fits, round_trip c v) v

pub words-below : (c : Clock) → (word30 c < 65536) × (word31 c < 65536) × (word32 c < 65536) × (word33 c < 65536)
unfolding word30 word31 word32 word33 bcd
words-below c = omega (arith, hour-byte c.twelve c.hour)

-- The digits of a valid word of 31h are those that its clock has, with bits 15 and 7 read as 0.
minute-back : (w : ℕ) → w / 256 % 16 ≤ 9 → bcd (minute_in w) ≡ w / 256 % 128
unfolding minute_in
minute-back w h =
    let q : w / 4096 ≡ w / 256 / 16 = omega arith in
    let b : w / 256 % 128 ≡ w / 256 / 16 % 8 * 16 + w / 256 % 16 = omega arith in
    rw (q, b, bcd-digits (w / 256 / 16 % 8 * 10 + w / 256 % 16) (omega arith)) (omega arith)

pub time-back : (w30 w31 w32 w33 : ℕ) (t : Ticks) →
    words_valid w30 w31 w32 w33 t ≡ true →
    word31 (clock_from w30 w31 w32 w33 t) ≡ w31 / 256 % 128 * 256 + w31 % 128
unfolding words_valid word31 clock_from
time-back w30 w31 w32 w33 t e =
    let (v, _) = (words-mean w30 w31 w32 w33 t).0 e in
    rw (minute-back w31 v.digits.minutes, hour-back w31 ((hour-means w31).1 v.hour) v.digits.hours)
