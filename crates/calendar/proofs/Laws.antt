-- Validity as plain bounds; one tick and many, on the clock's moment and weekday.
use Prim.Native.Nat.{ℕ, zero, suc, ◌+◌, ◌-◌, ◌*◌, ◌/◌, ◌%◌, ◌≤◌, ◌<◌}
use mathlib.Core.Bool.{Bool, true, false}
use mathlib.Core.Path.{◌≡◌, refl, sym, ap, ◌∙◌}
use native.Mathlib.Nat.{add-suc, add-zero, add-sub_of_le, add-sub_cancel}
use native.Mathlib.Numerals.{sub-one}
use native.Mathlib.Omega.{arith}
use lib.Dec.{ltb, eqb}
use borrow.Author.Tests.{ltb-false, le-ltb, eqb-true, eqb-false, eq-eqb, ne_eqb}
use Rattle.unit.specs.Choice.{pick}
use Rattle.unit.proofs.Cases.{by-leb, by_eqb}
use Rattle.unit.proofs.Joined.{passed, held, negated}
use Rattle.calendar.specs.declared.Clock.{Clock}
use Rattle.calendar.specs.Calendar.{leap, month_length, date_fits, time_fits, clock_valid, next_year, next_month, next_weekday, next_date}
use Rattle.calendar.specs.Calendar.{next_hour, next_minute, next_second, tick_clock}
use Rattle.calendar.specs.Moment.{first_months, day_number, day_ticks, century, time_ticks, moment, midnights}
use Rattle.calendar.specs.Bounds.{after_ticks, Bounds}

pub bounds : (c : Clock) → clock_valid c ≡ true → Bounds c
unfolding clock_valid date_fits time_fits
bounds c v =
    let (d, t) = held (date_fits c) v in
    let (y, d1) = passed (ltb 99 c.year) d in
    let (m0, d2) = passed (ltb c.month 1) d1 in
    let (m1, d3) = passed (ltb 12 c.month) d2 in
    let (n0, d4) = passed (ltb c.date 1) d3 in
    let (n1, d5) = passed (ltb (month_length c.year c.month) c.date) d4 in
    let (w0, d6) = passed (ltb c.weekday 1) d5 in
    let w1 = negated (ltb 7 c.weekday) d6 in
    let (h, t1) = passed (ltb 23 c.hour) t in
    let (m, t2) = passed (ltb 59 c.minute) t1 in
    let (s, t3) = passed (ltb 59 c.second) t2 in
    let k = negated (ltb 32767 c.ticks.0) t3 in
    omega (arith, ltb-false)

pub valid : (c : Clock) → Bounds c → clock_valid c ≡ true
unfolding clock_valid date_fits time_fits
valid c b =
    simp (
      le-ltb,
      b.year,
      b.month-from,
      b.month,
      b.date-from,
      b.date,
      b.weekday-from,
      b.weekday,
      b.hour,
      b.minute,
      b.second,
      b.ticks,
    )

pub next-weekday : (w : ℕ) → 1 ≤ w → w ≤ 7 → next_weekday w ≡ 1 + w % 7
unfolding next_weekday
next-weekday w l h = by-leb 7 w (λ k e. rw e (omega arith)) (λ k e. rw e (omega arith))

pub leap-true : (y : ℕ) → leap y ≡ true → y % 4 ≡ 0
unfolding leap
leap-true y e = omega (arith, eqb-true)

pub leap-false : (y : ℕ) → leap y ≡ false → y % 4 ≡ 0 → ⊥
unfolding leap
leap-false y e = eqb-false (y % 4) 0 e

-- A year has 365 days, and a leap year one more.
pub year-days : (y : ℕ) → first_months y 12 + (y + 3) / 4 ≡ 365 + (y + 4) / 4
unfolding first_months month_length
year-days y = go (leap y) refl
  where
    go : (t : Bool) → leap y ≡ t → first_months y 12 + (y + 3) / 4 ≡ 365 + (y + 4) / 4
    go true e = rw e (omega (arith, leap-true y e))
    go false e = rw e (let n = leap-false y e in omega arith)

-- The choices of a month's length, whatever the tests.
in-range : (f l a b c d : Bool) →
    let n : ℕ = pick f (pick l 29 28) (pick a 30 (pick b 30 (pick c 30 (pick d 30 31)))) in
    (28 ≤ n) × (n ≤ 31)
in-range true true a b c d = omega arith
in-range true false a b c d = omega arith
in-range false l true b c d = omega arith
in-range false l false true c d = omega arith
in-range false l false false true d = omega arith
in-range false l false false false true = omega arith
in-range false l false false false false = omega arith

pub month-length : (y m : ℕ) → (28 ≤ month_length y m) × (month_length y m ≤ 31)
unfolding month_length
month-length y m = in-range (eqb m 2) (leap y) (eqb m 4) (eqb m 6) (eqb m 9) (eqb m 11)

-- The days before a month, with its own, are those before the next.
next-first : (y m : ℕ) → 1 ≤ m → first_months y m ≡ first_months y (m - 1) + month_length y m
unfolding first_months
next-first y zero h = omega arith
next-first y (suc n) h = rw sub-one

first_below : (y m k : ℕ) → first_months y m ≤ first_months y (m + k)
unfolding first_months
first_below y m zero = rw add-zero (omega arith)
first_below y m (suc k) = rw add-suc (omega (arith, first_below y m k))

abbrev day_of : Clock → ℕ
day_of c = day_number c.year c.month c.date

-- A date lies between the days of the years before and those with its own year.
in-year : (c : Clock) →
    Bounds c →
    (c.year * 365 + (c.year + 3) / 4 ≤ day_of c) × (day_of c < c.year * 365 + 365 + (c.year + 4) / 4)
unfolding day_number
in-year c b =
    let l = rw (add-sub_of_le b.month) at (first_below c.year c.month (12 - c.month)) in
    omega (arith, year-days c.year, next-first c.year c.month b.month-from)

day-below : (c : Clock) → Bounds c → day_of c < 36525
day-below c b = omega (arith, in-year c b)

after-date : (y m d : ℕ) → 1 ≤ d → day_number y m (d + 1) ≡ day_number y m d + 1
unfolding day_number
after-date y m d l = omega arith

after-month : (y m d : ℕ) → 1 ≤ m → 1 ≤ d → d ≡ month_length y m → day_number y (m + 1) 1 ≡ day_number y m d + 1
unfolding day_number
after-month y m d l k e = rw (add-sub_cancel m 1) (omega (arith, next-first y m l))

after-year : (y m d : ℕ) → m ≡ 12 → 1 ≤ d → d ≡ month_length y m → day_number (y + 1) 1 1 ≡ day_number y m d + 1
unfolding day_number first_months
after-year y m d e = rw e (λ l k. omega (arith, year-days y))

after-century : (y n : ℕ) → y ≡ 99 → day_number (y + 1) 1 1 ≡ n + 1 → day_number 0 1 1 ≡ (n + 1) % 36525
unfolding day_number first_months
after-century y n e = rw e (omega arith)

-- What a midnight does.
record NextDay (c d : Clock) : Type 0 where
  bounds : Bounds d
  day : day_of d ≡ (day_of c + 1) % 36525
  weekday : d.weekday ≡ next_weekday c.weekday
  time : time_ticks d ≡ time_ticks c
  form : d.twelve ≡ c.twelve

-- What a midnight does within the century.
later : (c d : Clock) →
    Bounds d →
    day_of d ≡ day_of c + 1 →
    d.weekday ≡ next_weekday c.weekday →
    time_ticks d ≡ time_ticks c →
    d.twelve ≡ c.twelve →
    NextDay c d
later c d b e w t f =
    record { bounds = b; day = omega (arith, day-below d b); weekday = w; time = t; form = f }

next-day : (c : Clock) → Bounds c → NextDay c (next_date c)
unfolding next_date next_month next_year time_ticks
next-day c b =
    let w = next-weekday c.weekday b.weekday-from b.weekday in
    by-leb (month_length c.year c.month) c.date
    (λ h e.
    rw e
    (by-leb 12 c.month
    (λ h1 e1.
    let y = after-year c.year c.month c.date (omega arith) b.date-from (omega arith) in
    rw e1
    (by-leb 99 c.year
    (λ h2 e2.
    rw e2
    (record {
      bounds = omega (arith, month-length 0 1);
      day = after-century c.year (day_of c) (omega arith) y;
      weekday = refl;
      time = refl;
      form = refl;
    }))
    (λ h2 e2. rw e2 (later c _ (omega (arith, month-length (c.year + 1) 1)) y refl refl refl))))
    (λ h1 e1.
    rw e1
    (later c _ (omega (arith, month-length c.year (c.month + 1)))
    (after-month c.year c.month c.date b.month-from b.date-from (omega arith)) refl refl refl))))
    (λ h e. rw e (later c _ (omega arith) (after-date c.year c.month c.date b.date-from) refl refl refl))

-- What a tick does.
record Ticked (c d : Clock) : Type 0 where
  bounds : Bounds d
  adds : moment d ≡ (moment c + 1) % century
  weekday : d.weekday ≡ pick (eqb ((moment c + 1) % day_ticks) 0) (next_weekday c.weekday) c.weekday
  form : d.twelve ≡ c.twelve

-- Within a day.
within : (c d : Clock) →
    Bounds c →
    Bounds d →
    day_of d ≡ day_of c →
    time_ticks d ≡ time_ticks c + 1 →
    d.weekday ≡ c.weekday →
    d.twelve ≡ c.twelve →
    Ticked c d
unfolding moment
within c d b k e t w f =
    let l = day-below c b in
    let h : time_ticks d < day_ticks = unfold time_ticks in omega arith in
    record {
      bounds = k;
      adds = omega arith;
      weekday = rw (ne_eqb ((moment c + 1) % day_ticks) 0 (omega arith)) w;
      form = f;
    }

-- Over midnight; e is the clock before the date steps.
over : (c d e : Clock) →
    Bounds c →
    NextDay e d →
    day_of e ≡ day_of c →
    e.weekday ≡ c.weekday →
    time_ticks e ≡ 0 →
    time_ticks c + 1 ≡ day_ticks →
    e.twelve ≡ c.twelve →
    Ticked c d
unfolding moment
over c d e b n p q t u f =
    let l = day-below c b in
    let a : moment d ≡ (moment c + 1) % century = omega (arith, n.day, n.time) in
    record {
      bounds = n.bounds;
      adds = a;
      weekday = rw (eq-eqb ((moment c + 1) % day_ticks) 0 (omega arith)) (n.weekday ∙ ap next_weekday q);
      form = n.form ∙ f;
    }

one-tick : (c : Clock) → Bounds c → Ticked c (tick_clock c)
unfolding tick_clock next_second next_minute next_hour time_ticks
one-tick c b =
    by-leb 32767 c.ticks.0
    (λ h e.
    rw e
    (by-leb 59 c.second
    (λ h1 e1.
    rw e1
    (by-leb 59 c.minute
    (λ h2 e2.
    rw e2
    (by-leb 23 c.hour
    (λ h3 e3. rw e3 (over c _ _ b (next-day _ (omega arith)) refl refl refl (omega arith) refl))
    (λ h3 e3. rw e3 (within c _ b (omega arith) refl (omega arith) refl refl))))
    (λ h2 e2. rw e2 (within c _ b (omega arith) refl (omega arith) refl refl))))
    (λ h1 e1. rw e1 (within c _ b (omega arith) refl (omega arith) refl refl))))
    (λ h e. rw e (within c _ b (omega arith) refl (omega arith) refl refl))

pub tick-valid : (c : Clock) → clock_valid c ≡ true → clock_valid (tick_clock c) ≡ true
tick-valid c v = valid (tick_clock c) (one-tick c (bounds c v)).bounds

pub tick-moment : (c : Clock) → clock_valid c ≡ true → moment (tick_clock c) ≡ (moment c + 1) % century
tick-moment c v = (one-tick c (bounds c v)).adds

-- "Weekday steps at midnight, 7 to 1"
pub tick-weekday : (c : Clock) →
    clock_valid c ≡ true →
    (tick_clock c).weekday ≡ pick (eqb ((moment c + 1) % day_ticks) 0) (next_weekday c.weekday) c.weekday
tick-weekday c v = (one-tick c (bounds c v)).weekday

-- "A clock keeps the form it was last written in" (Note 2)
pub tick-form : (c : Clock) → clock_valid c ≡ true → (tick_clock c).twelve ≡ c.twelve
tick-form c v = (one-tick c (bounds c v)).form

pub moment-below : (c : Clock) → clock_valid c ≡ true → moment c < century
unfolding moment time_ticks
moment-below c v = let b = bounds c v in omega (arith, day-below c b)

pub after-valid : (n : ℕ) (c : Clock) → clock_valid c ≡ true → clock_valid (after_ticks n c) ≡ true
unfolding after_ticks
after-valid zero c v = v
after-valid (suc n) c v = tick-valid (after_ticks n c) (after-valid n c v)

pub after-moment : (n : ℕ) (c : Clock) → clock_valid c ≡ true → moment (after_ticks n c) ≡ (moment c + n) % century
unfolding after_ticks
after-moment zero c v = omega (arith, moment-below c v)
after-moment (suc n) c v = omega (arith, tick-moment (after_ticks n c) (after-valid n c v), after-moment n c v)

pub after-form : (n : ℕ) (c : Clock) → clock_valid c ≡ true → (after_ticks n c).twelve ≡ c.twelve
unfolding after_ticks
after-form zero c v = refl
after-form (suc n) c v = tick-form (after_ticks n c) (after-valid n c v) ∙ after-form n c v

-- The midnights passed after one more tick: one more if it reached midnight, else as many.
one_more : (c : Clock) (n d : ℕ) →
    d ≡ (moment c + n) % century →
    (d + 1) % day_ticks ≡ 0 →
    midnights c (suc n) ≡ midnights c n + 1
unfolding midnights
one_more c n d e h = omega arith

as_many : (c : Clock) (n d : ℕ) →
    d ≡ (moment c + n) % century →
    ((d + 1) % day_ticks ≡ 0 → ⊥) →
    midnights c (suc n) ≡ midnights c n
unfolding midnights
as_many c n d e h = omega arith

week-step : (w k : ℕ) → 1 + (1 + (w + k) % 7) % 7 ≡ 1 + (w + (k + 1)) % 7
week-step w k = omega arith

-- "Its weekday has stepped once for each midnight passed"
pub after-weekday : (n : ℕ) (c : Clock) →
    clock_valid c ≡ true →
    (after_ticks n c).weekday ≡ 1 + (c.weekday - 1 + midnights c n) % 7
unfolding after_ticks
after-weekday zero c v = let b = bounds c v in unfold midnights in omega arith
after-weekday (suc n) c v =
    let d : Clock = after_ticks n c in
    let k = after-valid n c v in
    let b = bounds d k in
    let i = after-weekday n c v in
    let m = after-moment n c v in
    rw (tick-weekday d k)
    (by_eqb ((moment d + 1) % day_ticks) 0
    (λ h e.
    rw (e, one_more c n (moment d) m h, next-weekday d.weekday b.weekday-from b.weekday, i)
    (week-step (c.weekday - 1) (midnights c n)))
    (λ h e. rw (e, as_many c n (moment d) m h) i))

same-year : (c d : Clock) → Bounds c → Bounds d → day_of c ≡ day_of d → c.year ≡ d.year
same-year c d b k e = omega (arith, in-year c b, in-year d k)

-- A date of an earlier month is an earlier day.
no-earlier : (y m n d e : ℕ) →
    1 ≤ m →
    1 ≤ d →
    d ≤ month_length y m →
    day_number y m d ≡ day_number y n e →
    n ≤ m
unfolding day_number
no-earlier y m n d e a b l q =
    by-leb n m (λ h _. h)
    (λ h _.
    let g : m + (n - 1 - m) ≡ n - 1 = omega arith in
    let f = rw g at (first_below y m (n - 1 - m)) in
    absurd (omega (arith, next-first y m a)))

same-day : (y m d e : ℕ) → 1 ≤ d → 1 ≤ e → day_number y m d ≡ day_number y m e → d ≡ e
unfolding day_number
same-day y m d e a b q = omega arith

-- Two valid clocks of one moment, one weekday and one form are one clock.
pub moment-once : (c d : Clock) →
    clock_valid c ≡ true →
    clock_valid d ≡ true →
    moment c ≡ moment d →
    c.weekday ≡ d.weekday →
    c.twelve ≡ d.twelve →
    c ≡ d
unfolding moment time_ticks
moment-once c d v u q w f =
    let b = bounds c v in
    let k = bounds d u in
    let n : day_of c ≡ day_of d = omega arith in
    let y = same-year c d b k n in
    let l = rw (← y) at k.date in
    let n1 = rw (← y) at n in
    let m : c.month ≡ d.month =
    omega (
      arith,
      no-earlier c.year c.month d.month c.date d.date b.month-from b.date-from b.date n1,
      no-earlier c.year d.month c.month d.date c.date k.month-from k.date-from l (sym n1),
    ) in
    let e = same-day c.year c.month c.date d.date b.date-from k.date-from (rw (← m) at n1) in
    let h : c.hour ≡ d.hour = omega arith in
    let t : c.minute ≡ d.minute = omega arith in
    let s : c.second ≡ d.second = omega arith in
    let r : c.ticks.0 ≡ d.ticks.0 = omega arith in
    λ i.
    record {
      year = y i;
      month = m i;
      date = e i;
      weekday = w i;
      hour = h i;
      minute = t i;
      second = s i;
      ticks = record { 0 = r i };
      twelve = f i;
    }
