-- Facts that pin the definitions down: month lengths, a write's ticks, the first clock, hours in both forms, the alarm.
use Prim.Native.Nat.{ℕ, zero, suc, ◌+◌, ◌*◌, ◌/◌, ◌%◌, ◌≤◌, ◌<◌}
use mathlib.Core.Bool.{Bool, true, false}
use mathlib.Core.List.{List, [], ◌∷◌, ◌++◌, map}
use mathlib.Core.Logic.{◌↔◌}
use mathlib.Core.Path.{◌≡◌, refl}
use native.Mathlib.Omega.{arith}
use lib.Dec.{eqb}
use borrow.Author.Tests.{eqb-true, eqb-false, eq-eqb, ne_eqb}
use Rattle.unit.specs.Choice.{pick}
use Rattle.calendar.specs.declared.Clock.{Clock}
use Rattle.calendar.specs.Calendar.{leap, month_length, date_fits, time_fits, clock_valid, start, tick_clock}
use Rattle.calendar.specs.Calendar.{next_second, next_minute, next_hour, next_date, next_month, next_year, next_weekday}
use Rattle.calendar.specs.Words.{bcd, twelve_hour, hour_digits, word31, hundredths_of, ticks_in, minute_in, twelve_in, hour_named, hour_in, time_digits, hour_fits, alarm_valid}
use Rattle.calendar.specs.Moment.{first_months, day_number, time_ticks, moment}
use Rattle.calendar.specs.Alarm.{reaches, alarm_rings}
use Rattle.unit.proofs.Joined.{passed, held}
use Rattle.calendar.proofs.Laws.{year-days}

abbrev pub months : List ℕ
months = 1 ∷ 2 ∷ 3 ∷ 4 ∷ 5 ∷ 6 ∷ 7 ∷ 8 ∷ 9 ∷ 10 ∷ 11 ∷ 12 ∷ []

pub leap-months : (y : ℕ) →
    y % 4 ≡ 0 →
    map (month_length y) months
    ≡ 31 ∷ 29 ∷ 31 ∷ 30 ∷ 31 ∷ 30 ∷ 31 ∷ 31 ∷ 30 ∷ 31 ∷ 30 ∷ 31 ∷ []
unfolding month_length leap
leap-months y h = rw (eq-eqb (y % 4) 0 h)

pub common-months : (y : ℕ) →
    (y % 4 ≡ 0 → ⊥) →
    map (month_length y) months
    ≡ 31 ∷ 28 ∷ 31 ∷ 30 ∷ 31 ∷ 30 ∷ 31 ∷ 31 ∷ 30 ∷ 31 ∷ 30 ∷ 31 ∷ []
unfolding month_length leap
common-months y h = rw (ne_eqb (y % 4) 0 h)

pub leap-days : (y : ℕ) → y % 4 ≡ 0 → first_months y 12 ≡ 366
leap-days y h = omega (arith, year-days y)

pub common-days : (y : ℕ) → (y % 4 ≡ 0 → ⊥) → first_months y 12 ≡ 365
common-days y h = omega (arith, year-days y)

pub start-valid : clock_valid start ≡ true
unfolding clock_valid date_fits time_fits month_length leap start
start-valid = refl

pub start-moment : moment start ≡ 0
unfolding moment day_number first_months time_ticks start
start-moment = refl

-- "c being 10 × its tenths + its hundredths"
abbrev pub hundredths_in : ℕ → ℕ
hundredths_in w = w / 4096 % 16 * 10 + w / 256 % 16

-- A write's ticks read back as the hundredths written, and any fewer read less.
pub ticks-read : (w : ℕ) → hundredths_of (ticks_in w) ≡ hundredths_in w
unfolding hundredths_of ticks_in
ticks-read w = omega arith

pub ticks-least : (w s : ℕ) → s < (ticks_in w).0 → s * 100 / 32768 < hundredths_in w
unfolding ticks_in
ticks-least w s h = omega arith

pub ticks-below : (w : ℕ) → hundredths_in w ≤ 99 → (ticks_in w).0 ≤ 32767
unfolding ticks_in
ticks-below w h = omega arith

-- The hours of 12-hour form, bit for bit: 12 AM, 1 AM to 11 AM, 12 PM, 1 PM to 11 PM.
abbrev pub half_days : List ℕ
half_days =
    0x52 ∷ 0x41 ∷ 0x42 ∷ 0x43 ∷ 0x44 ∷ 0x45 ∷ 0x46 ∷ 0x47 ∷ 0x48 ∷ 0x49 ∷ 0x50 ∷ 0x51 ∷
    0x72 ∷ 0x61 ∷ 0x62 ∷ 0x63 ∷ 0x64 ∷ 0x65 ∷ 0x66 ∷ 0x67 ∷ 0x68 ∷ 0x69 ∷ 0x70 ∷ 0x71 ∷ []

abbrev pub hours : List ℕ
hours =
    0 ∷ 1 ∷ 2 ∷ 3 ∷ 4 ∷ 5 ∷ 6 ∷ 7 ∷ 8 ∷ 9 ∷ 10 ∷ 11 ∷
    12 ∷ 13 ∷ 14 ∷ 15 ∷ 16 ∷ 17 ∷ 18 ∷ 19 ∷ 20 ∷ 21 ∷ 22 ∷ 23 ∷ []

-- They mean each hour of the day once, "so 12 AM equals 00", and each hour reads as its own.
pub half-days-mean : map hour_in half_days ≡ hours
unfolding hour_in hour_named twelve_in
half-days-mean = refl

pub half-days-read : map (hour_digits true) hours ≡ half_days
unfolding hour_digits twelve_hour bcd
half-days-read = refl

-- One tick to noon and one to midnight, in 12-hour form: 31h reads 12 PM and 12 AM, and an alarm of the hour 00 rings at the
-- second.
abbrev last_tick : ℕ → Clock
last_tick hour =
    record {
      year = 26;
      month = 11;
      date = 15;
      weekday = 7;
      hour = hour;
      minute = 59;
      second = 59;
      ticks = record { 0 = 32767 };
      twelve = true;
    }

pub noon-and-midnight :
    (word31 (last_tick 11) ≡ 0x5951) × (word31 (tick_clock (last_tick 11)) ≡ 0x0072) ×
    (word31 (last_tick 23) ≡ 0x5971) × (word31 (tick_clock (last_tick 23)) ≡ 0x0052) ×
    (alarm_rings (last_tick 11) (tick_clock (last_tick 11)) 0x0000 2 ≡ false) ×
    (alarm_rings (last_tick 23) (tick_clock (last_tick 23)) 0x0000 2 ≡ true)
unfolding word31 hour_digits twelve_hour bcd tick_clock next_second next_minute next_hour next_date next_month next_year next_weekday month_length leap alarm_rings reaches hour_in hour_named twelve_in
noon-and-midnight = (refl, refl, refl, refl, refl, refl)

-- "an hour invalid in its form": of all bytes without bit 7 these are the valid ones, in 24-hour form and in 12-hour form.
unfoldable pub up_to : ℕ → List ℕ
up_to zero = []
up_to (suc n) = up_to n ++ (n ∷ [])

unfoldable pub chosen : (ℕ → Bool) → List ℕ → List ℕ
chosen f [] = []
chosen f (x ∷ xs) = pick (f x) (x ∷ chosen f xs) (chosen f xs)

pub valid-hours : chosen alarm_valid (up_to 128)
    ≡ 0x00 ∷ 0x01 ∷ 0x02 ∷ 0x03 ∷ 0x04 ∷ 0x05 ∷ 0x06 ∷ 0x07 ∷ 0x08 ∷ 0x09 ∷ 0x10 ∷ 0x11 ∷
    0x12 ∷ 0x13 ∷ 0x14 ∷ 0x15 ∷ 0x16 ∷ 0x17 ∷ 0x18 ∷ 0x19 ∷ 0x20 ∷ 0x21 ∷ 0x22 ∷ 0x23 ∷
    0x41 ∷ 0x42 ∷ 0x43 ∷ 0x44 ∷ 0x45 ∷ 0x46 ∷ 0x47 ∷ 0x48 ∷ 0x49 ∷ 0x50 ∷ 0x51 ∷ 0x52 ∷
    0x61 ∷ 0x62 ∷ 0x63 ∷ 0x64 ∷ 0x65 ∷ 0x66 ∷ 0x67 ∷ 0x68 ∷ 0x69 ∷ 0x70 ∷ 0x71 ∷ 0x72 ∷ []
unfolding up_to chosen alarm_valid time_digits hour_fits hour_named twelve_in minute_in
valid-hours = refl

-- The form is nothing to the moment.
abbrev pub with_form : Clock → Bool → Clock
with_form c f =
    record {
      year = c.year;
      month = c.month;
      date = c.date;
      weekday = c.weekday;
      hour = c.hour;
      minute = c.minute;
      second = c.second;
      ticks = c.ticks;
      twelve = f;
    }

pub moment-any-form : (c : Clock) (f : Bool) → moment (with_form c f) ≡ moment c
unfolding moment time_ticks
moment-any-form c f = refl

-- The alarm rings exactly where minutes or hours change to the alarm's.
abbrev pub ChangedTo : ℕ → ℕ → ℕ → Type 0
ChangedTo b a t = (b ≡ a → ⊥) × (a ≡ t)

reached : (b a t : ℕ) → reaches b a t ≡ true ↔ ChangedTo b a t
unfolding reaches
reached b a t = (
  (λ e.
      let (c, r) = passed _ e in
      (eqb-false _ _ c, eqb-true _ _ r)),
  (λ h. rw (ne_eqb b a h.0, eq-eqb a t h.1)),
)

pub minutes-ring : (b a : Clock) (w : ℕ) → alarm_rings b a w 1 ≡ true ↔ ChangedTo b.minute a.minute (minute_in w)
unfolding alarm_rings
minutes-ring b a w = reached b.minute a.minute (minute_in w)

pub hours-ring : (b a : Clock) (w : ℕ) → alarm_rings b a w 2 ≡ true ↔ ChangedTo b.hour a.hour (hour_in w)
unfolding alarm_rings
hours-ring b a w = reached b.hour a.hour (hour_in w)

pub both-ring : (b a : Clock) (w : ℕ) →
    alarm_rings b a w 3 ≡ true
    ↔ (a.hour ≡ hour_in w) × ChangedTo b.minute a.minute (minute_in w)
unfolding alarm_rings
both-ring b a w =
    let r = reached b.minute a.minute (minute_in w) in (
      (λ e.
          let (h, m) = held (eqb a.hour (hour_in w)) e in
          (eqb-true a.hour (hour_in w) h, r.0 m)),
      (λ h. rw (eq-eqb a.hour (hour_in w) h.0) (r.1 h.1)),
    )

-- "An alarm matches by the time of day meant": words of one time of day ring alike, in whatever form the clock is.
pub rings-by-time : (b a : Clock) (f g : Bool) (v w mode : ℕ) →
    minute_in v ≡ minute_in w →
    hour_in v ≡ hour_in w →
    alarm_rings (with_form b f) (with_form a g) v mode ≡ alarm_rings b a w mode
unfolding alarm_rings
rings-by-time b a f g v w mode m h = rw (m, h)
