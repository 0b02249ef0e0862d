-- A stretch against its single ticks: each start and failure in it is the only one of its sort, so that the tick which the
-- answer names is exactly the tick that reports it.
use Prim.Native.Nat.{ℕ, zero, suc, ◌+◌, ◌≤◌, ◌<◌}
use native.Mathlib.Omega.{arith}
use mathlib.Core.Path.{◌≡◌, refl, ap, sym, ◌∙◌}
use mathlib.Core.Bool.{Bool, true, false}
use mathlib.Core.Logic.{◌⊎◌, inl, inr, ⊎_elim}
use lib.Dec.{eqb}
use borrow.Author.Tests.{le-leb, lt-leb, eq-eqb, ne_eqb, eqb-true}
use Rattle.unit.proofs.Cases.{by-test, by-ltb, by_eqb}
use Rattle.calendar.specs.Calendar.{tick_clock}
use Rattle.calendar.specs.Bounds.{after_ticks}
use Rattle.setup.specs.Setup.{clock_stands}
use Rattle.unit.specs.declared.Ticks.{Ticks}
use Rattle.device.specs.declared.Schedule.{Schedule}
use Rattle.device.specs.declared.Model.{Model}
use Rattle.device.specs.Event.{starts_left, begins, fails, left_after, wait_after, tick_schedule}
use Rattle.device.specs.Results.{failed_flight}
use Rattle.device.specs.Tick.{flight_ticked, flight_after, temperature_after, clock_ticked, tick_model}
use Rattle.device.specs.Stretch.{model_ticked, schedule_ticked, last_tick}
use Rattle.device.specs.Model.{is_sound}
use Rattle.device.specs.History.{Kind, differences, temperatures}
use Rattle.device.proofs.Table.{picked}
use Rattle.device.proofs.TickCases.{by-begins, left-before}
use Rattle.device.proofs.Sound.{ScheduleBounds, Bounds, bounds_of, ticked-bounds}

-- The schedule of a kind.
abbrev pub schedule_of : Kind → Model → Schedule
schedule_of differences m = m.flight.schedule
schedule_of temperatures m = m.temperature.schedule

pub schedule-tick : (k : Kind) (m : Model) → schedule_of k (tick_model m) ≡ tick_schedule (schedule_of k m)
unfolding tick_model flight_after flight_ticked failed_flight temperature_after
schedule-tick differences m = by-test (fails m.flight.schedule) (λ e. rw e) (λ e. rw e)
schedule-tick temperatures m = by-test (fails m.temperature.schedule) (λ e. rw e) (λ e. rw e)

pub schedule-ticked : (k : Kind) (n : ℕ) (m : Model) → schedule_of k (model_ticked n m) ≡ schedule_ticked n (schedule_of k m)
unfolding model_ticked schedule_ticked
schedule-ticked k zero m = refl
schedule-ticked k (suc n) m = schedule-tick k (model_ticked n m) ∙ ap tick_schedule (schedule-ticked k n m)

-- ticks after ticks
pub ticked-later : (a b : ℕ) (m : Model) → model_ticked a (model_ticked b m) ≡ model_ticked (b + a) m
unfolding model_ticked
ticked-later zero b m = let e : b + 0 ≡ b = omega arith in rw e
ticked-later (suc a) b m = let e : b + suc a ≡ suc (b + a) = omega arith in rw e (ap tick_model (ticked-later a b m))

-- ticks keep the set-up, and move a clock that does not stand
pub setup-ticked : (n : ℕ) (m : Model) → (model_ticked n m).setup ≡ m.setup
unfolding model_ticked tick_model
setup-ticked zero m = refl
setup-ticked (suc n) m = setup-ticked n m

pub clock-ticked :
    (n : ℕ) (m : Model) → clock_stands m.setup ≡ false → (model_ticked n m).clock ≡ after_ticks n m.clock
unfolding model_ticked tick_model clock_ticked after_ticks
clock-ticked zero m e = refl
clock-ticked (suc n) m e = rw (setup-ticked n m, e) (ap tick_clock (clock-ticked n m e))

-- The tick that is named.
last-below : (test : Schedule → Bool) (k : Schedule) (n : ℕ) → last_tick test k n ≤ n
unfolding last_tick
last-below test k zero = omega arith
last-below test k (suc n) =
    picked (λ x. x ≤ suc n) (test (schedule_ticked n k)) (λ _. omega arith) (λ _. omega (arith, last-below test k n))

-- where what the test asks happens once in n ticks, the named tick is where it happens
named-once :
    (test : Schedule → Bool) (k : Schedule) (n j : ℕ) →
    j < n →
    ((i : ℕ) → j < i → i < n → test (schedule_ticked j k) ≡ true → test (schedule_ticked i k) ≡ false) →
    eqb (last_tick test k n) (j + 1) ≡ test (schedule_ticked j k)
unfolding last_tick
named-once test k zero j l once = absurd (omega arith)
named-once test k (suc n) j l once =
    by_eqb j n
    (λ e _. rw e
    (by-test (test (schedule_ticked n k))
    (λ t. rw t (eq-eqb (n + 1) (n + 1) refl))
    (λ t. rw (t, ne_eqb (last_tick test k n) (n + 1) (λ q. absurd (omega (arith, last-below test k n)))))))
    (λ d _. by-test (test (schedule_ticked n k))
    (λ t. rw (t, ne_eqb (n + 1) (j + 1) (λ q. d (omega arith)))
    (by-test (test (schedule_ticked j k))
    (λ u. sym (once n (omega arith) (omega arith) u) ∙ t ∙ sym u)
    (λ u. sym u)))
    (λ t. rw t (named-once test k n j (omega arith) (λ i a b. once i a (omega arith)))))

-- Starts lie a period apart.
period-ticked : (n : ℕ) (k : Schedule) → (schedule_ticked n k).period ≡ k.period
unfolding schedule_ticked tick_schedule
period-ticked zero k = refl
period-ticked (suc n) k = period-ticked n k

-- after a start at tick j + 1, the wait at i
wait-counts :
    (k : Schedule) (j i : ℕ) →
    (schedule_ticked j k).wait.0 ≤ 1 →
    j < i →
    i < j + k.period.0 →
    (schedule_ticked i k).wait.0 + i ≡ k.period.0 + (j + 1)
unfolding schedule_ticked tick_schedule wait_after
wait-counts k j zero w a b = absurd (omega arith)
wait-counts k j (suc i) w a b =
    by_eqb j i
    (λ e _. let v = rw e at w in rw (le-leb (schedule_ticked i k).wait.0 1 v, e, period-ticked i k) (omega arith))
    (λ d _.
    let c = wait-counts k j i w (omega arith) (omega arith) in
    let v : 1 < (schedule_ticked i k).wait.0 = omega arith in
    rw (lt-leb (schedule_ticked i k).wait.0 1 v) (omega arith))

begins-some : (k : Schedule) → begins k ≡ true → starts_left k ≡ true
begins-some k e = by-begins k (λ l w b. l) (λ f b. let z : ◌≡◌ {A = ℕ} 0 1 = cc in absurd (omega arith))

begins-waits : (k : Schedule) → begins k ≡ true → k.wait.0 ≤ 1
begins-waits k e = by-begins k (λ l w b. w) (λ f b. let z : ◌≡◌ {A = ℕ} 0 1 = cc in absurd (omega arith))

waits-rests : (k : Schedule) → 1 < k.wait.0 → begins k ≡ false
waits-rests k v = by-begins k (λ l w b. absurd (omega arith)) (λ f b. b)

starts-once :
    (k : Schedule) (j i : ℕ) →
    16384 ≤ k.period.0 →
    j < i →
    i < 16384 →
    begins (schedule_ticked j k) ≡ true →
    begins (schedule_ticked i k) ≡ false
starts-once k j i p a b e =
    let c = wait-counts k j i (begins-waits (schedule_ticked j k) e) a (omega arith) in
    waits-rests (schedule_ticked i k) (omega arith)

-- After a failure in tick j + 1 nothing is awaited until the next start, and that one has its 8,192 ticks.
abbrev Rests : ℕ → ℕ → Schedule → Type 0
Rests j i k =
    ((k.left.0 ≡ 0) × (starts_left k ≡ true → 8193 + j ≤ k.wait.0 + i)) ⊎
    ((16385 + j ≤ k.left.0 + i) × (8192 + j ≤ i))

-- what a tick without a start leaves
left-gone : (k : Schedule) → begins k ≡ false → k.left.0 ≤ 1 → (tick_schedule k).left.0 ≡ 0
unfolding tick_schedule left_after
left-gone k b l = rw b (by-ltb 0 k.left.0 (λ a e. rw e (omega arith)) (λ a e. rw e))

left-falls : (k : Schedule) → begins k ≡ false → k.left.0 ≤ (tick_schedule k).left.0 + 1
unfolding tick_schedule left_after
left-falls k b = rw b (by-ltb 0 k.left.0 (λ a e. rw e (omega arith)) (λ a e. rw e (omega arith)))

wait-falls : (k : Schedule) → 2 ≤ k.wait.0 → (tick_schedule k).wait.0 + 1 ≡ k.wait.0
unfolding tick_schedule wait_after
wait-falls k l = rw (lt-leb k.wait.0 1 l) (omega arith)

rests-starts :
    (j i : ℕ) (k : Schedule) →
    Rests j i k →
    starts_left k ≡ true →
    k.wait.0 ≤ 1 →
    begins k ≡ true →
    Rests j (suc i) (tick_schedule k)
rests-starts j i k r l w b =
    let c : 8192 + j ≤ i = ⊎_elim (λ p. omega (arith, p.1 l)) (λ q. omega arith) r in
    let e : (tick_schedule k).left.0 ≡ 8192 = unfold tick_schedule left_after in rw b in
    inr (omega arith)

rests-on :
    (j i : ℕ) (k : Schedule) →
    Rests j i k →
    (starts_left k ≡ true → 2 ≤ k.wait.0) →
    begins k ≡ false →
    Rests j (suc i) (tick_schedule k)
rests-on j i k r f b =
    ⊎_elim
    (λ p.
    inl (
      left-gone k b (omega arith),
      λ l. let u = left-before k l in omega (arith, p.1 u, wait-falls k (f u)),
    ))
    (λ (q : (16385 + j ≤ k.left.0 + i) × (8192 + j ≤ i)). inr (omega (arith, left-falls k b)))
    r

rests-tick : (j i : ℕ) (k : Schedule) → Rests j i k → Rests j (suc i) (tick_schedule k)
rests-tick j i k r = by-begins k (rests-starts j i k r) (rests-on j i k r)

-- What is asked of the schedule before the failure: it is apart from starts.
record Apart (k : Schedule) : Type 0 where
  long : starts_left k ≡ true → 16384 ≤ k.period.0
  alone : k.left.0 ≡ 1 → begins k ≡ false
  before : k.left.0 ≡ 1 → starts_left k ≡ true → 8193 ≤ k.wait.0

sound-apart : (k : Schedule) → ScheduleBounds k → Apart k
sound-apart k b =
    record {
      long = λ u. (b.wait u).long;
      alone = λ e. by-begins k (λ l w _. absurd (omega (arith, (b.wait l).apart (omega arith)))) (λ f n. n);
      before = λ e l. omega (arith, (b.wait l).apart (omega arith));
    }

first_rest : (j : ℕ) (k : Schedule) → Apart k → k.left.0 ≡ 1 → Rests j (suc j) (tick_schedule k)
first_rest j k a e =
    by-begins k
    (λ l w b. let z : ◌≡◌ {A = ℕ} 0 1 = cc (a.alone e) in absurd (omega arith))
    (λ f b.
    inl (
      left-gone k b (omega arith),
      λ l. let u = left-before k l in omega (arith, a.before e u, wait-falls k (f u)),
    ))

rests-all :
    (k : Schedule) (j i : ℕ) →
    Apart (schedule_ticked j k) →
    (schedule_ticked j k).left.0 ≡ 1 →
    j < i →
    Rests j i (schedule_ticked i k)
unfolding schedule_ticked
rests-all k j zero a e l = absurd (omega arith)
rests-all k j (suc i) a e l =
    by_eqb j i
    (λ q _. rw (sym q) (first_rest j (schedule_ticked j k) a e))
    (λ d _. rests-tick j i (schedule_ticked i k) (rests-all k j i a e (omega arith)))

fails-left : (k : Schedule) → fails k ≡ true → k.left.0 ≡ 1
unfolding fails
fails-left k e = eqb-true k.left.0 1 e

left-fails : (k : Schedule) → ¬ (k.left.0 ≡ 1) → fails k ≡ false
unfolding fails
left-fails k n = rw (ne_eqb k.left.0 1 n)

fails-once :
    (k : Schedule) (j i : ℕ) →
    Apart (schedule_ticked j k) →
    j < i →
    i < 16384 →
    fails (schedule_ticked j k) ≡ true →
    fails (schedule_ticked i k) ≡ false
fails-once k j i a l b e =
    left-fails (schedule_ticked i k)
    (λ q.
    ⊎_elim (λ p. omega arith) (λ r. omega arith)
    (rests-all k j i a (fails-left (schedule_ticked j k) e) l))

-- So the tick that a stretch of a sound model names is exactly the tick that reports a start, or a failure: "periods are long enough
-- that there is at most one of each" (Note 1).
module _ (m : Model) (s : is_sound m ≡ true) (k : Kind) (n j : ℕ) (l : j < n) (u : n ≤ 16384) where
  apart-then : Apart (schedule_ticked j (schedule_of k m))
  apart-then =
      rw (← schedule-ticked k j m) (sound-apart (schedule_of k (model_ticked j m)) (bounds k (ticked-bounds j m (bounds_of m s))))
    where
      bounds : (k : Kind) → Bounds (model_ticked j m) → ScheduleBounds (schedule_of k (model_ticked j m))
      bounds differences b = b.flight.schedule
      bounds temperatures b = b.temperature.schedule

  pub start-named : eqb (last_tick begins (schedule_of k m) n) (j + 1) ≡ begins (schedule_of k (model_ticked j m))
  start-named =
      let c : Schedule = schedule_of k m in
      rw (schedule-ticked k j m)
      (named-once begins c n j l
      (λ i a d e.
      starts-once c j i
      (omega (arith, apart-then.long (begins-some (schedule_ticked j c) e), ap (λ (p : Ticks). p.0) (period-ticked j c))) a
      (omega arith) e))

  pub failure-named : eqb (last_tick fails (schedule_of k m) n) (j + 1) ≡ fails (schedule_of k (model_ticked j m))
  failure-named =
      let c : Schedule = schedule_of k m in
      rw (schedule-ticked k j m) (named-once fails c n j l (λ i a d e. fails-once c j i apart-then a (omega arith) e))
