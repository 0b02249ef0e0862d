-- Ticks with nothing to report and no second's end, taken at once.
use Prim.Native.Nat.{ℕ, zero, suc, ◌+◌, ◌-◌, ◌≤◌, ◌<◌}
use native.Mathlib.Omega.{arith}
use native.Mathlib.Numerals.{add-one}
use mathlib.Core.Path.{◌≡◌, refl, ap, sym, ◌∙◌}
use mathlib.Core.Bool.{false}
use mathlib.Core.Logic.{◌⊎◌, inl, inr, ⊎_elim}
use lib.Dec.{ltb, leb}
use borrow.Author.Tests.{le-leb, lt-leb, ne_eqb}
use Rattle.unit.specs.Choice.{pick}
use Rattle.unit.proofs.Cases.{by-test, by-ltb, by_eqb}
use Rattle.calendar.specs.Calendar.{tick_clock}
use Rattle.calendar.proofs.AlarmModes.{same-time}
use Rattle.setup.specs.Setup.{clock_stands, alarm_word, alarm_mode}
use Rattle.device.specs.declared.Schedule.{Schedule}
use Rattle.device.specs.declared.Model.{Model}
use Rattle.device.specs.declared.Progress.{Progress}
use Rattle.device.specs.Event.{starts_left, begins, begins_group, fails, left_after, wait_after, started_after, settled_after, good_after, tick_schedule}
use Rattle.device.specs.Status.{flight_bits, temperature_bits}
use Rattle.device.specs.Tick.{sum_after, sums_after, flight_ticked, flight_after, temperature_after, clock_ticked, tick_rings, tick_status, tick_model, report_of}
use Rattle.device.specs.Stretch.{model_ticked, schedule_ticked, last_tick, stretch_report}
use Rattle.device.specs.StretchSteps.{least, quiet_left, quiet_wait, quiet_clock, quiet_schedule, quiet_for}
use Rattle.device.specs.StretchSteps.{later_schedule, later_clock, later_model, progress, moved_quietly, noted, moved_by_one, moved}
use Rattle.device.specs.History.{Kind, differences, temperatures}
use Rattle.device.proofs.CallMeaning.{no_bits_lem, no-alarm}
use Rattle.device.proofs.TickCases.{no-group}
use Rattle.device.proofs.Stretch.{schedule_of, schedule-ticked, ticked-later}

below_left : (a b : ℕ) {q : ℕ} → q < least a b → q < a
unfolding least
below_left a b = by-ltb b a (λ l e. rw e (λ h. omega arith)) (λ l e. rw e (λ h. h))

below_right : (a b : ℕ) {q : ℕ} → q < least a b → q < b
unfolding least
below_right a b = by-ltb b a (λ l e. rw e (λ h. h)) (λ l e. rw e (λ h. omega arith))

least-bound : (a b : ℕ) → least a b ≤ a
unfolding least
least-bound a b = by-ltb b a (λ l e. rw e (omega arith)) (λ l e. rw e (omega arith))

-- one schedule
module _ (k : Schedule) (q : ℕ) (l : q < quiet_schedule k) where
  left-quiet : q < quiet_left k
  unfolding quiet_schedule
  left-quiet = below_left (quiet_left k) (quiet_wait k) l

  wait-quiet : q < quiet_wait k
  unfolding quiet_schedule
  wait-quiet = below_right (quiet_left k) (quiet_wait k) l

  -- the awaited measurement has more than one tick left, or none is awaited
  left-later : (k.left.0 ≡ 0) ⊎ (q + 1 < k.left.0)
  unfolding quiet_left
  left-later =
      by_eqb k.left.0 0 (λ e _. inl e) (λ n e. inr (omega (arith, rw e at left-quiet)))

  -- the next start is more than one tick away, or none comes
  wait-later : ((k.wait.0 ≤ 1) × (begins k ≡ false) × (k.wait.0 ≡ k.period.0)) ⊎ (q + 1 < k.wait.0)
  unfolding quiet_wait
  wait-later =
      by-ltb 1 k.wait.0
      (λ a _. inr (omega (arith, rw (lt-leb k.wait.0 1 a) at wait-quiet)))
      (λ a _. by-test (begins k)
      (λ b. absurd (omega (arith, rw (le-leb k.wait.0 1 a, b) at wait-quiet)))
      (λ b. by_eqb k.wait.0 k.period.0
      (λ e _. inl (a, b, e))
      (λ n e. absurd (omega (arith, rw (le-leb k.wait.0 1 a, b, e) at wait-quiet)))))

  pub begins-none : begins (later_schedule q k) ≡ false
  unfolding begins starts_left later_schedule
  begins-none =
      ⊎_elim
      (λ (p : (k.wait.0 ≤ 1) × (begins k ≡ false) × (k.wait.0 ≡ k.period.0)).
      rw (le-leb k.wait.0 1 p.0) p.1)
      (λ (r : q + 1 < k.wait.0).
      let a : 1 < k.wait.0 - q = omega arith in
      rw (lt-leb k.wait.0 1 (omega arith), lt-leb (k.wait.0 - q) 1 a)
      (by-test (starts_left k) (λ e. rw e) (λ e. rw e)))
      wait-later

  pub fails-none : fails (later_schedule q k) ≡ false
  unfolding fails later_schedule
  fails-none =
      rw (ne_eqb (k.left.0 - q) 1
      (λ e. ⊎_elim (λ (z : k.left.0 ≡ 0). omega arith) (λ (r : q + 1 < k.left.0). omega arith) left-later))

  left_less : left_after (later_schedule q k) ≡ k.left.0 - (q + 1)
  unfolding left_after later_schedule
  left_less =
      rw begins-none
      (by-ltb 0 (k.left.0 - q) (λ a e. rw e (omega arith)) (λ a e. rw e (omega arith)))

  wait-less : wait_after (later_schedule q k) ≡ pick (leb k.wait.0 1) k.wait.0 (k.wait.0 - (q + 1))
  unfolding wait_after later_schedule
  wait-less =
      ⊎_elim
      (λ (p : (k.wait.0 ≤ 1) × (begins k ≡ false) × (k.wait.0 ≡ k.period.0)).
      rw (le-leb k.wait.0 1 p.0) (rw (le-leb k.wait.0 1 p.0) (sym p.2)))
      (λ (r : q + 1 < k.wait.0).
      let a : 1 < k.wait.0 - q = omega arith in
      rw (lt-leb k.wait.0 1 (omega arith), lt-leb (k.wait.0 - q) 1 a) (omega arith))
      wait-later

  pub group-none : begins_group (later_schedule q k) ≡ false
  group-none = (no-group (later_schedule q k) begins-none).0

  started-same : started_after (later_schedule q k) ≡ k.started
  unfolding later_schedule
  started-same = (no-group (later_schedule q k) begins-none).1

  pub schedule-later : tick_schedule (later_schedule q k) ≡ later_schedule (q + 1) k
  unfolding tick_schedule later_schedule settled_after good_after
  schedule-later = rw (left_less, wait-less, started-same, group-none, fails-none)

-- the clock, and that it raises no alarm
module _ (m : Model) (q : ℕ) (l : q < quiet_clock m) where
  clock-later : clock_ticked (later_model q m) ≡ later_clock (q + 1) m
  unfolding clock_ticked later_model later_clock quiet_clock tick_clock
  clock-later =
      by-test (clock_stands m.setup) (λ e. rw e)
      (λ e.
      let n : q < 32767 - m.clock.ticks.0 = rw e at l in
      let a : m.clock.ticks.0 + q < 32767 = omega arith in
      let b : m.clock.ticks.0 + q + 1 ≡ m.clock.ticks.0 + (q + 1) = omega arith in
      rw (e, lt-leb 32767 (m.clock.ticks.0 + q) a, b))

  alarm-none : tick_rings (later_model q m) (clock_ticked (later_model q m)) ≡ false
  unfolding tick_rings later_model later_clock
  alarm-none =
      rw clock-later
      (by-test (clock_stands m.setup)
      (λ e. rw e (same-time m.clock m.clock (alarm_word m.setup) (alarm_mode m.setup) refl refl))
      (λ e. rw e (same-time _ _ (alarm_word m.setup) (alarm_mode m.setup) refl refl)))

-- where nothing happens, a tick leaves the status
status-same :
    (m : Model) →
    tick_rings m (clock_ticked m) ≡ false →
    fails m.flight.schedule ≡ false →
    fails m.temperature.schedule ≡ false →
    tick_status m (clock_ticked m) ≡ m.status
unfolding tick_status flight_bits temperature_bits
status-same m a f t = rw (a, f, t) (simp (no-alarm, no_bits_lem))

-- one tick more
module _ (m : Model) (q : ℕ) (l : q < quiet_for m) where
  for-clock : q < quiet_clock m
  unfolding quiet_for
  for-clock = below_left (quiet_clock m) (least (quiet_schedule m.flight.schedule) (quiet_schedule m.temperature.schedule)) l

  for-schedules : q < least (quiet_schedule m.flight.schedule) (quiet_schedule m.temperature.schedule)
  unfolding quiet_for
  for-schedules =
      below_right (quiet_clock m) (least (quiet_schedule m.flight.schedule) (quiet_schedule m.temperature.schedule)) l

  for-schedule : (k : Kind) → q < quiet_schedule (schedule_of k m)
  for-schedule differences =
      below_left (quiet_schedule m.flight.schedule) (quiet_schedule m.temperature.schedule) for-schedules
  for-schedule temperatures =
      below_right (quiet_schedule m.flight.schedule) (quiet_schedule m.temperature.schedule) for-schedules

  begins-later : (k : Kind) → begins (schedule_of k (later_model q m)) ≡ false
  unfolding later_model
  begins-later differences = begins-none m.flight.schedule q (for-schedule differences)
  begins-later temperatures = begins-none m.temperature.schedule q (for-schedule temperatures)

  fails-later : (k : Kind) → fails (schedule_of k (later_model q m)) ≡ false
  unfolding later_model
  fails-later differences = fails-none m.flight.schedule q (for-schedule differences)
  fails-later temperatures = fails-none m.temperature.schedule q (for-schedule temperatures)

  report-later : (k : Kind) → report_of (schedule_of k (later_model q m)) ≡ record { started = false; failed = false }
  unfolding report_of
  report-later k = rw (begins-later k, fails-later k)

  status-later : tick_status (later_model q m) (clock_ticked (later_model q m)) ≡ m.status
  unfolding later_model
  status-later =
      status-same (later_model q m) (alarm-none m q for-clock) (fails-later differences) (fails-later temperatures)

  pub model-later : tick_model (later_model q m) ≡ later_model (q + 1) m
  unfolding tick_model later_model flight_after flight_ticked temperature_after sum_after sums_after
  model-later =
      rw (
        status-later,
        clock-later m q for-clock,
        fails-none m.flight.schedule q (for-schedule differences),
        fails-none m.temperature.schedule q (for-schedule temperatures),
        group-none m.flight.schedule q (for-schedule differences),
        group-none m.temperature.schedule q (for-schedule temperatures),
        schedule-later m.flight.schedule q (for-schedule differences),
        schedule-later m.temperature.schedule q (for-schedule temperatures),
      )

-- no tick at all
none-schedule : (k : Schedule) → later_schedule 0 k ≡ k
unfolding later_schedule
none-schedule k =
    let a : k.left.0 - 0 ≡ k.left.0 = omega arith in
    let b : k.wait.0 - 0 ≡ k.wait.0 = omega arith in
    rw (a, b) (by-test (leb k.wait.0 1) (λ e. rw e) (λ e. rw e))

none-clock : (m : Model) → later_clock 0 m ≡ m.clock
unfolding later_clock
none-clock m =
    let a : m.clock.ticks.0 + 0 ≡ m.clock.ticks.0 = omega arith in
    rw a (by-test (clock_stands m.setup) (λ e. rw e) (λ e. rw e))

none-later : (m : Model) → later_model 0 m ≡ m
unfolding later_model
none-later m =
    rw (none-clock m, none-schedule m.flight.schedule, none-schedule m.temperature.schedule)

-- q of them
pub quiet-ticked : (m : Model) (q : ℕ) → q ≤ quiet_for m → model_ticked q m ≡ later_model q m
unfolding model_ticked
quiet-ticked m zero l = sym (none-later m)
quiet-ticked m (suc q) l =
    ap tick_model (quiet-ticked m q (omega arith)) ∙ model-later m q (omega arith) ∙ ap (λ n. later_model n m) (add-one q)

-- the one after q of them reports nothing
module _ (m : Model) (q : ℕ) (l : q < quiet_for m) where
  next-kind : (k : Kind) → report_of (schedule_of k (model_ticked q m)) ≡ record { started = false; failed = false }
  next-kind k = ap (λ (n : Model). report_of (schedule_of k n)) (quiet-ticked m q (omega arith)) ∙ report-later m q l k

  pub next-flight : report_of (model_ticked q m).flight.schedule ≡ record { started = false; failed = false }
  next-flight = next-kind differences

  pub next-temperature : report_of (model_ticked q m).temperature.schedule ≡ record { started = false; failed = false }
  next-temperature = next-kind temperatures

-- nothing is reported meanwhile
quiet-report :
    (k : Kind) (m : Model) (d q : ℕ) →
    q ≤ quiet_for (model_ticked d m) →
    stretch_report (schedule_of k m) (d + q) ≡ stretch_report (schedule_of k m) d
unfolding stretch_report last_tick
quiet-report k m d zero l = let e : d + 0 ≡ d = omega arith in rw e
quiet-report k m d (suc q) l =
    let e : d + suc q ≡ suc (d + q) = omega arith in
    let n : Model = model_ticked d m in
    let t : schedule_ticked (d + q) (schedule_of k m) ≡ schedule_of k (later_model q n) =
    sym (schedule-ticked k (d + q) m) ∙ ap (schedule_of k) (sym (ticked-later q d m) ∙ quiet-ticked n q (omega arith)) in
    rw (e, t, begins-later n q (omega arith) k, fails-later n q (omega arith) k) (quiet-report k m d q (omega arith))

-- The parts of the code: each moves a stretch on.
pub one-moves : (m : Model) (d : ℕ) → moved_by_one (progress m d) ≡ progress m (d + 1)
unfolding moved_by_one progress noted stretch_report last_tick model_ticked
one-moves m d =
    rw (add-one d, sym (schedule-ticked differences d m), sym (schedule-ticked temperatures d m), add-one d)

pub quiet-moves :
    (m : Model) (d q : ℕ) → q ≤ quiet_for (model_ticked d m) → moved_quietly q (progress m d) ≡ progress m (d + q)
unfolding moved_quietly progress
quiet-moves m d q l =
    rw (
      sym (quiet-ticked (model_ticked d m) q l),
      ticked-later q d m,
      quiet-report differences m d q l,
      quiet-report temperatures m d q l,
    )

-- A whole stretch of quiet ticks.
pub quiet-run : (m : Model) (n : ℕ) → n ≤ quiet_for m → moved_quietly n (progress m 0) ≡ progress m n
unfolding model_ticked
quiet-run m n l = let e : 0 + n ≡ n = omega arith in quiet-moves m 0 n l ∙ ap (progress m) e

pub quiet-fits : (m : Model) (n : ℕ) → n ≤ quiet_for m → n ≤ quiet_clock m
unfolding quiet_for
quiet-fits m n l =
    let s : ℕ = least (quiet_schedule m.flight.schedule) (quiet_schedule m.temperature.schedule) in
    omega (arith, l, least-bound (quiet_clock m) s)

-- A single quiet tick reports nothing.
module _ (m : Model) (l : 1 ≤ quiet_for m) where
  pub quiet-tick : tick_model m ≡ later_model 1 m
  unfolding model_ticked
  quiet-tick = quiet-ticked m 1 l

  quiet-kind : (k : Kind) → report_of (schedule_of k m) ≡ record { started = false; failed = false }
  unfolding report_of
  quiet-kind k =
      let b = rw (none-later m) at (begins-later m 0 l k) in
      let f = rw (none-later m) at (fails-later m 0 l k) in
      rw (b, f)

  pub quiet-flight : report_of m.flight.schedule ≡ record { started = false; failed = false }
  quiet-flight = quiet-kind differences

  pub quiet-temperature : report_of m.temperature.schedule ≡ record { started = false; failed = false }
  quiet-temperature = quiet-kind temperatures

-- How far a stretch is moved on at once: at least a tick, and no farther than it goes.
unfoldable pub step_of : ℕ → Model → ℕ
step_of most m = pick (ltb 0 (quiet_for m)) (least (quiet_for m) most) 1

pub step-bounds : (most : ℕ) (m : Model) → 1 ≤ most → (1 ≤ step_of most m) × (step_of most m ≤ most)
unfolding step_of least
step-bounds most m l =
    by-ltb 0 (quiet_for m)
    (λ a e. rw e (by-ltb most (quiet_for m) (λ b f. rw f (omega arith)) (λ b f. rw f (omega arith))))
    (λ a e. rw e (omega arith))

pub step-moves :
    (m : Model) (d most : ℕ) → moved most (progress m d) ≡ progress m (d + step_of most (model_ticked d m))
unfolding moved step_of progress
step-moves m d most =
    by-ltb 0 (quiet_for (model_ticked d m))
    (λ a e. rw e (quiet-moves m d (least (quiet_for (model_ticked d m)) most) (least-bound (quiet_for (model_ticked d m)) most)))
    (λ a e. rw e (one-moves m d))

pub step_fits : (m : Model) (most : ℕ) → (least (quiet_for m) most ≤ quiet_clock m) × (least (quiet_for m) most ≤ most)
unfolding least quiet_for
step_fits m most =
    let s : ℕ = least (quiet_schedule m.flight.schedule) (quiet_schedule m.temperature.schedule) in
    let f : least (quiet_clock m) s ≤ quiet_clock m = least-bound (quiet_clock m) s in
    by-ltb most (quiet_for m) (λ l e. rw e (omega arith)) (λ l e. rw e (omega arith))

-- What the loop over a stretch keeps, and what it leaves.
pub record Kept (m : Model) (n d : ℕ) (r : Progress) : Type 0 where
  pub progressed : r ≡ progress m r.done.0
  pub within : r.done.0 ≤ n
  pub farther : d < r.done.0

pub loop-keeps :
    (m : Model) (p r : Progress) (n most : ℕ) →
    p ≡ progress m p.done.0 →
    p.done.0 < n →
    most ≡ n - p.done.0 →
    r ≡ moved most p →
    Kept m n p.done.0 r
unfolding progress
loop-keeps m p r n most e l h f =
    let d : ℕ = p.done.0 in
    let s : ℕ = step_of (n - d) (model_ticked d m) in
    let q : r ≡ progress m (d + s) = f ∙ ap (λ (x : ℕ). moved x p) h ∙ ap (moved (n - d)) e ∙ step-moves m d (n - d) in
    let g : r.done.0 ≡ d + s = ap (λ (x : Progress). x.done.0) q in
    let b = step-bounds (n - d) (model_ticked d m) (omega arith) in
    record {
      progressed = q ∙ ap (progress m) (sym g);
      within = omega arith;
      farther = omega arith;
    }

pub loop-starts : (m : Model) (p : Progress) → p ≡ progress m 0 → (p ≡ progress p.model p.done.0) × (p.done.0 ≡ 0)
unfolding progress model_ticked
loop-starts m p e = rw e (refl, refl)

pub loop-ends :
    (m : Model) (p r : Progress) (n : ℕ) →
    p ≡ progress m 0 →
    r ≡ progress p.model r.done.0 →
    r.done.0 ≤ n →
    n ≤ r.done.0 →
    r ≡ progress m n
unfolding progress model_ticked
loop-ends m p r n e f a b =
    let d : r.done.0 ≡ n = omega arith in
    let g : p.model ≡ m = ap (λ (x : Progress). x.model) e in
    f ∙ ap (progress p.model) d ∙ ap (λ (x : Model). progress x n) g

-- where the clock does not stand, the second has room for q ticks
pub clock-room :
    (m : Model) (q : ℕ) → clock_stands m.setup ≡ false → q ≤ quiet_clock m → q ≤ 32767 - m.clock.ticks.0
unfolding quiet_clock
clock-room m q e l = rw e at l
