-- When the words of 30h to 33h, and of the alarm 35h, are valid, both ways.
use Prim.Native.Nat.{ℕ, ◌+◌, ◌*◌, ◌/◌, ◌%◌, ◌≤◌}
use mathlib.Core.Bool.{true}
use mathlib.Core.Logic.{◌↔◌}
use mathlib.Core.Path.{◌≡◌}
use native.Mathlib.Omega.{arith}
use lib.Dec.{ltb}
use borrow.Author.Tests.{le-ltb, ltb-false}
use Rattle.unit.specs.declared.Ticks.{Ticks}
use Rattle.calendar.specs.Words.{minute_in, clock_from, time_digits, hour_fits, digits_fit, words_valid, alarm_valid}
use Rattle.calendar.specs.Valid.{HourValid, DigitsValid, CalendarValid, AlarmValid}
use Rattle.unit.proofs.Joined.{passed, held, negated}
use Rattle.calendar.proofs.Laws.{bounds, valid}
use Rattle.calendar.proofs.Hours.{half-fits, full-fits, by_form, half-bounds, full-bounds, hour-below}

pub hour-means : (w : ℕ) → hour_fits w ≡ true ↔ HourValid w
hour-means w = (
  (λ f. record { half-day = λ e. half-bounds w e f; full-day = λ e. full-bounds w e f }),
  (λ v.
      by_form w (λ e. let (l, h) = v.half-day e in half-fits w e l h) (λ e. full-fits w e (v.full-day e))),
)

pub time-digits-mean : (w : ℕ) → time_digits w ≡ true ↔ (w / 256 % 16 ≤ 9) × (w % 16 ≤ 9)
unfolding time_digits
time-digits-mean w = (
  (λ e.
      let (m, r) = passed (ltb 9 (w / 256 % 16)) e in
      let h = negated (ltb 9 (w % 16)) r in
      omega (arith, ltb-false)),
  (λ v. rw (le-ltb 9 (w / 256 % 16) v.0, le-ltb 9 (w % 16) v.1)),
)

pub digits-mean : (w30 w31 w32 w33 : ℕ) → digits_fit w30 w31 w32 w33 ≡ true ↔ DigitsValid w30 w31 w32 w33
unfolding digits_fit
digits-mean w30 w31 w32 w33 = (
  (λ e.
      let (t, e1) = passed (ltb 9 (w30 / 4096 % 16)) e in
      let (h, e2) = passed (ltb 9 (w30 / 256 % 16)) e1 in
      let (s, e3) = passed (ltb 9 (w30 % 16)) e2 in
      let (d, e4) = passed (ltb 9 (w32 % 16)) e3 in
      let (m, e5) = passed (ltb 9 (w33 / 256 % 16)) e4 in
      let (y, e6) = passed (ltb 9 (w33 / 16 % 16)) e5 in
      let (z, e7) = passed (ltb 9 (w33 % 16)) e6 in
      let r = (time-digits-mean w31).0 e7 in
      omega (arith, ltb-false)),
  (λ v.
      simp (
        le-ltb 9 (w30 / 4096 % 16) v.tenths,
        le-ltb 9 (w30 / 256 % 16) v.hundredths,
        le-ltb 9 (w30 % 16) v.seconds,
        le-ltb 9 (w32 % 16) v.dates,
        le-ltb 9 (w33 / 256 % 16) v.months,
        le-ltb 9 (w33 / 16 % 16) v.ten-years,
        le-ltb 9 (w33 % 16) v.years,
      )
      ((time-digits-mean w31).1 (v.minutes, v.hours))),
)

pub words-mean : (w30 w31 w32 w33 : ℕ) (t : Ticks) →
    words_valid w30 w31 w32 w33 t ≡ true
    ↔ CalendarValid w30 w31 w32 w33 × (t.0 ≤ 32767)
unfolding words_valid clock_from minute_in
words-mean w30 w31 w32 w33 t = (
  (λ e.
      let (d, e1) = held (digits_fit w30 w31 w32 w33) e in
      let (h, e2) = held (hour_fits w31) e1 in
      let b = bounds _ e2 in (
        record {
          digits = (digits-mean w30 w31 w32 w33).0 d;
          second = b.second;
          minute = b.minute;
          hour = (hour-means w31).0 h;
          weekday = b.weekday-from;
          month-from = b.month-from;
          month = b.month;
          date-from = b.date-from;
          date = b.date;
        },
        b.ticks,
      )),
  (λ (v, l).
      let f = (hour-means w31).1 v.hour in
      let h = hour-below w31 f in
      rw ((digits-mean w30 w31 w32 w33).1 v.digits, f) (valid _ (omega arith))),
)

pub alarm-means : (w : ℕ) → alarm_valid w ≡ true ↔ AlarmValid w
unfolding alarm_valid minute_in
alarm-means w = (
  (λ e.
      let (d, e1) = held (time_digits w) e in
      let (m, f) = passed (ltb 59 (w / 4096 % 8 * 10 + w / 256 % 16)) e1 in
      let (i, h) = (time-digits-mean w).0 d in
      record { minutes = i; hours = h; minute = omega (arith, ltb-false); hour = (hour-means w).0 f }),
  (λ v.
      rw (
        (time-digits-mean w).1 (v.minutes, v.hours),
        le-ltb 59 (w / 4096 % 8 * 10 + w / 256 % 16) v.minute,
      )
      ((hour-means w).1 v.hour)),
)
