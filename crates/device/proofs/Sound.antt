-- Soundness as plain bounds; a fresh model is sound, and every call keeps a model so.
use Prim.Native.Nat.{ℕ, zero, suc, ◌+◌, ◌*◌, ◌^◌, ◌≤◌, ◌<◌}
use native.Mathlib.Omega.{arith}
use mathlib.Core.Bool.{Bool, true, false}
use mathlib.Core.List.{List}
use mathlib.Core.Path.{◌≡◌, refl, sym}
use lib.ListN.{length, get_or, drop}
use lib.Dec.{ltb, leb, eqb}
use borrow.Author.Tests.{ltb-true, leb-true, lt-ltb, le-ltb, le-leb, lt-leb, eqb-true, eq-eqb}
use Rattle.unit.specs.Choice.{pick, both, negate}
use Rattle.unit.proofs.Cases.{by-test, by-ltb, by_eqb}
use Rattle.unit.specs.declared.Ticks.{Ticks}
use Rattle.calendar.specs.Calendar.{clock_valid}
use Rattle.calendar.specs.Words.{minute_in, twelve_in, hour_named, hour_in, clock_from, time_digits, hour_fits, digits_fit, words_valid, alarm_valid}
use Rattle.unit.proofs.Joined.{both_true, neither, held}
use Rattle.calendar.proofs.Laws.{tick-valid}
use Rattle.calendar.proofs.Facts.{start-valid}
use Rattle.setup.specs.Setup.{factory, alarm_word}
use Rattle.setup.specs.Setup.{hit_count, timeout, port_cycle, clock_stands, event_continuous, difference_period, difference_count, temperature_period, temperature_count}
use Rattle.setup.proofs.Laws.{hits-bounds, cycle-below, difference-period-bounds, difference-count-bounds}
use Rattle.setup.proofs.Laws.{temperature-period-bounds, temperature-count-bounds}
use Rattle.frame.specs.Frame.{is_command, is_write, is_flash}
use Rattle.unit.specs.declared.Quanta.{Quanta}
use Rattle.hit.specs.Limit.{late_from, open_from, any_from}
use Rattle.hit.specs.Words.{six_words, four_words, average, six_total, no_quanta, plus_each}
use Rattle.hit.specs.Difference.{biased}
use Rattle.hit.proofs.Limits.{quotient-below}
use Rattle.hit.proofs.Sum.{hits-fit}
use Rattle.hit.proofs.Ports.{Good, good-ports}
use Rattle.device.specs.declared.Schedule.{Schedule}
use Rattle.device.specs.declared.Status.{Status}
use Rattle.device.specs.Status.{no_bits, por_bit}
use Rattle.device.specs.declared.Flight.{Flight}
use Rattle.device.specs.declared.Temperature.{Temperature}
use Rattle.device.specs.declared.Model.{Model}
use Rattle.device.specs.Model.{is_sound, is_busy, kind_busy, flight_sound, temperature_sound, sum_fits, difference_most, port_most, fresh_with, fresh_model, reset_model, no_flight, no_temperature}
use Rattle.device.specs.Write.{of_calendar, setup_after, clock_after, write_invalid, write_model}
use Rattle.device.specs.Tick.{sum_after, sums_after, flight_ticked, flight_after, temperature_after, clock_ticked, tick_model}
use Rattle.device.specs.Results.{failed_flight}
use Rattle.device.specs.Stretch.{model_ticked}
use Rattle.device.specs.Delivery.{same_count, flight_miscounted, good_flight_model, failed_flight_model, good_temperature_model, failed_temperature_model}
use Rattle.device.specs.Results.{good_sum, good_sums, good_flight}
use Rattle.device.specs.Bus.{must_be_idle, command_busy, starts_flight, starts_temperature, is_event, flight_started, flight_event, temperature_event}
use Rattle.device.specs.Bus.{event_flight, event_temperature, started_event, initialised_model, halted_model, single_started, supplied, unsupplied, run_model, read_model}
use Rattle.device.specs.FlashFrame.{flash_model}
use Rattle.device.specs.Call.{Call, transaction, tick, flight, temperature, stretch, Verdict, accepted, refused, opcode, words}
use Rattle.device.specs.Parts.{flight_fits}
use Rattle.device.specs.Reply.{any_late, port_fault, accepted_model, reply, reply_by}
use Rattle.device.specs.Call.{miscounted, while_busy, supply_off, unreachable, unerased, not_awaited, bad_calendar, verdict}
use Rattle.device.proofs.Table.{NoneHolds, none-holds, negated, picked}
use Rattle.device.specs.Event.{counts_sound, wait_sound, balance_sound, schedule_sound, no_schedule, is_awaited, in_event, starts_left, begins}
use Rattle.device.specs.Event.{begins_group, left_after, wait_after, started_after, settled_after, good_after, fails, start_single, start_event}
use Rattle.device.specs.Event.{tick_schedule, settle, halt_schedule}
use Rattle.device.proofs.TickCases.{by-begins, by-group, no-group, one_less}
use Rattle.refusal.specs.declared.Refusal.{Refusal}

-- a start to come: the period, the wait for it, and the ticks that the awaited one has left
pub record Spaced (left wait period : ℕ) : Type 0 where
  pub long : 16384 ≤ period
  pub within : wait ≤ period
  pub some : 1 ≤ wait
  pub apart : 0 < left → left + 8192 ≤ wait

-- an event that runs: all that are started but the awaited one are settled
pub record Balanced (left started settled : ℕ) : Type 0 where
  pub some : 1 ≤ started
  pub busy : 0 < left → settled + 1 ≡ started
  pub idle : left ≡ 0 → settled ≡ started

pub record ScheduleBounds (k : Schedule) : Type 0 where
  pub planned : k.planned ≤ 32
  pub started : k.started ≤ k.planned
  pub settled : k.settled ≤ k.started
  pub good : k.good ≤ k.settled
  pub left : k.left.0 ≤ 8192
  pub wait : starts_left k ≡ true → Spaced k.left.0 k.wait.0 k.period.0
  pub balance : in_event k ≡ true → Balanced k.left.0 k.started k.settled

pub record FlightBounds (f : Flight) : Type 0 where
  pub schedule : ScheduleBounds f.schedule
  pub sum : f.sum.0 ≤ f.schedule.good * 4294967296

pub record PortBounds (sums : List Quanta) (good : ℕ) : Type 0 where
  pub first : (get_or sums 0 no_quanta).0 ≤ good * 2147483648
  pub second : (get_or sums 1 no_quanta).0 ≤ good * 2147483648
  pub third : (get_or sums 2 no_quanta).0 ≤ good * 2147483648
  pub fourth : (get_or sums 3 no_quanta).0 ≤ good * 2147483648

pub record TemperatureBounds (t : Temperature) : Type 0 where
  pub schedule : ScheduleBounds t.schedule
  pub sums : PortBounds t.sums t.schedule.good

pub record Bounds (m : Model) : Type 0 where
  pub clock : clock_valid m.clock ≡ true
  pub alarm : alarm_valid (alarm_word m.setup) ≡ true
  pub flight : FlightBounds m.flight
  pub temperature : TemperatureBounds m.temperature

-- Whichever is picked.
chosen : {A : Type 0} (P : A → Type 0) (t : Bool) {x y : A} → P x → P y → P (pick t x y)
chosen P t p q = picked P t (λ e. p) (λ e. q)

-- The test and the bounds say the same.
counts_of :
    (k : Schedule) →
    counts_sound k ≡ true →
    (k.planned ≤ 32) × (k.started ≤ k.planned) × (k.settled ≤ k.started) × (k.good ≤ k.settled)
unfolding counts_sound
counts_of k e =
    let (p, e1) = both_true (leb k.planned 32) _ e in
    let (q, e2) = both_true (leb k.started k.planned) _ e1 in
    let (s, g) = both_true (leb k.settled k.started) _ e2 in
    omega (arith, leb-true)

spaced-of :
    (left wait period : ℕ) →
    both (leb 16384 period)
    (both (leb wait period) (pick (ltb 0 left) (leb (left + 8192) wait) (ltb 0 wait)))
    ≡ true →
    Spaced left wait period
spaced-of left wait period e =
    let (l, e1) = both_true (leb 16384 period) _ e in
    let (w, e2) = both_true (leb wait period) _ e1 in
    let a = leb-true 16384 period l in
    let b = leb-true wait period w in
    by-ltb 0 left
    (λ x f.
    let c = leb-true (left + 8192) wait (rw f at e2) in
    record { long = a; within = b; some = omega arith; apart = λ _. c })
    (λ x f.
    let c = ltb-true 0 wait (rw f at e2) in
    record { long = a; within = b; some = c; apart = λ y. absurd (omega arith) })

spaced-test :
    (left wait period : ℕ) →
    Spaced left wait period →
    both (leb 16384 period)
    (both (leb wait period) (pick (ltb 0 left) (leb (left + 8192) wait) (ltb 0 wait)))
    ≡ true
spaced-test left wait period s =
    rw (le-leb 16384 period s.long, le-leb wait period s.within)
    (by-ltb 0 left
    (λ x f. rw (f, le-leb (left + 8192) wait (s.apart x)))
    (λ x f. rw (f, lt-ltb 0 wait s.some)))

balanced-of :
    (left started settled : ℕ) →
    pick (ltb 0 left) (eqb (settled + 1) started) (both (ltb 0 started) (eqb settled started)) ≡ true →
    Balanced left started settled
balanced-of left started settled e =
    by-ltb 0 left
    (λ x f.
    let c = eqb-true (settled + 1) started (rw f at e) in
    record { some = omega arith; busy = λ _. c; idle = λ y. absurd (omega arith) })
    (λ x f.
    let (a, d) = both_true (ltb 0 started) (eqb settled started) (rw f at e) in
    let c = eqb-true settled started d in
    record { some = ltb-true 0 started a; busy = λ y. absurd (omega arith); idle = λ _. c })

balanced-test :
    (left started settled : ℕ) →
    Balanced left started settled →
    pick (ltb 0 left) (eqb (settled + 1) started) (both (ltb 0 started) (eqb settled started)) ≡ true
balanced-test left started settled b =
    by-ltb 0 left
    (λ x f. rw (f, eq-eqb (settled + 1) started (b.busy x)))
    (λ x f. rw (f, lt-ltb 0 started b.some, eq-eqb settled started (b.idle (omega arith))))

pub schedule-of : (k : Schedule) → schedule_sound k ≡ true → ScheduleBounds k
unfolding schedule_sound wait_sound balance_sound
schedule-of k e =
    let (c, e1) = both_true (counts_sound k) _ e in
    let (w, r) = both_true (wait_sound k) _ e1 in
    let (p, q, s, g) = counts_of k c in
    let (l, v) = both_true (leb k.left.0 8192) _ w in
    record {
      planned = p;
      started = q;
      settled = s;
      good = g;
      left = leb-true k.left.0 8192 l;
      wait = λ t. spaced-of k.left.0 k.wait.0 k.period.0 (rw t at v);
      balance = λ t. balanced-of k.left.0 k.started k.settled (rw t at r);
    }

schedule-sound : (k : Schedule) → ScheduleBounds k → schedule_sound k ≡ true
unfolding schedule_sound counts_sound wait_sound balance_sound
schedule-sound k b =
    rw (
      le-leb k.planned 32 b.planned,
      le-leb k.started k.planned b.started,
      le-leb k.settled k.started b.settled,
      le-leb k.good k.settled b.good,
      le-leb k.left.0 8192 b.left,
    )
    (by-test (starts_left k)
    (λ t. rw (t, spaced-test k.left.0 k.wait.0 k.period.0 (b.wait t)) (rest k b))
    (λ t. rw t (rest k b)))
  where
    rest :
        (k : Schedule) →
        ScheduleBounds k →
        pick (in_event k)
        (pick (ltb 0 k.left.0) (eqb (k.settled + 1) k.started)
        (both (ltb 0 k.started) (eqb k.settled k.started)))
        true
        ≡ true
    rest k b =
        by-test (in_event k) (λ t. rw (t, balanced-test k.left.0 k.started k.settled (b.balance t))) (λ t. rw t)

sum_of : (s : Quanta) (g : ℕ) (most : Quanta) → sum_fits s g most ≡ true → s.0 ≤ g * most.0
unfolding sum_fits
sum_of s g most e = leb-true s.0 (g * most.0) e

sum_fits_lem : (s : Quanta) (g : ℕ) (most : Quanta) → s.0 ≤ g * most.0 → sum_fits s g most ≡ true
unfolding sum_fits
sum_fits_lem s g most h = le-leb s.0 (g * most.0) h

pub flight-of : (f : Flight) → flight_sound f ≡ true → FlightBounds f
unfolding flight_sound
flight-of f e =
    let (k, s) = both_true (schedule_sound f.schedule) _ e in
    record { schedule = schedule-of f.schedule k; sum = sum_of f.sum f.schedule.good difference_most s }

flight-sound : (f : Flight) → FlightBounds f → flight_sound f ≡ true
unfolding flight_sound
flight-sound f b = simp (schedule-sound, b.schedule, sum_fits_lem, b.sum)

pub temperature-of : (t : Temperature) → temperature_sound t ≡ true → TemperatureBounds t
unfolding temperature_sound
temperature-of t e =
    let g : ℕ = t.schedule.good in
    let (k, e0) = both_true (schedule_sound t.schedule) _ e in
    let (a, e1) = both_true (sum_fits (get_or t.sums 0 no_quanta) g port_most) _ e0 in
    let (b, e2) = both_true (sum_fits (get_or t.sums 1 no_quanta) g port_most) _ e1 in
    let (c, d) = both_true (sum_fits (get_or t.sums 2 no_quanta) g port_most) _ e2 in
    record {
      schedule = schedule-of t.schedule k;
      sums =
          record {
            first = sum_of (get_or t.sums 0 no_quanta) g port_most a;
            second = sum_of (get_or t.sums 1 no_quanta) g port_most b;
            third = sum_of (get_or t.sums 2 no_quanta) g port_most c;
            fourth = sum_of (get_or t.sums 3 no_quanta) g port_most d;
          };
    }

temperature-sound : (t : Temperature) → TemperatureBounds t → temperature_sound t ≡ true
unfolding temperature_sound
temperature-sound t b =
    let s = b.sums in
    simp (schedule-sound, b.schedule, sum_fits_lem, s.first, s.second, s.third, s.fourth)

pub bounds_of : (m : Model) → is_sound m ≡ true → Bounds m
unfolding is_sound
bounds_of m e =
    let (c, e1) = both_true (clock_valid m.clock) _ e in
    let (a, e2) = both_true (alarm_valid (alarm_word m.setup)) _ e1 in
    let (f, t) = both_true (flight_sound m.flight) _ e2 in
    record { clock = c; alarm = a; flight = flight-of m.flight f; temperature = temperature-of m.temperature t }

pub sound-of : (m : Model) → Bounds m → is_sound m ≡ true
unfolding is_sound
sound-of m b =
    rw (b.clock, b.alarm, flight-sound m.flight b.flight, temperature-sound m.temperature b.temperature)

-- The schedule of one kind.
pub no-schedule-bounds : ScheduleBounds no_schedule
unfolding no_schedule starts_left in_event
no-schedule-bounds =
    record {
      planned = omega arith;
      started = omega arith;
      settled = omega arith;
      good = omega arith;
      left = omega arith;
      wait = λ t. let z : ◌≡◌ {A = ℕ} 0 1 = cc in absurd (omega arith);
      balance = λ t. let z : ◌≡◌ {A = ℕ} 0 1 = cc in absurd (omega arith);
    }

-- where no event runs, all that were planned are started and settled
idle-all : (k : Schedule) → in_event k ≡ false → (k.continuous ≡ false) × (k.planned ≤ k.settled)
unfolding in_event
idle-all k =
    by-test k.continuous (λ c. rw c (λ e. (cc, absurd (let z : ◌≡◌ {A = ℕ} 0 1 = cc in omega arith))))
    (λ c. rw c
    (by-ltb k.settled k.planned (λ l e. rw e (λ f. (refl, absurd (let z : ◌≡◌ {A = ℕ} 0 1 = cc in omega arith))))
    (λ l e. rw e (λ f. (refl, l)))))

none_left : (k : Schedule) → k.continuous ≡ false → k.planned ≤ k.started → starts_left k ≡ false
unfolding starts_left
none_left k c l = rw (c, le-ltb k.started k.planned l)

pub single-bounds : (k : Schedule) → kind_busy k ≡ false → ScheduleBounds k → ScheduleBounds (start_single k)
unfolding start_single kind_busy starts_left in_event
single-bounds k i b =
    let e = (neither (is_awaited k) (in_event k) i).1 in
    let (c, l) = idle-all k e in
    record {
      planned = b.planned;
      started = b.started;
      settled = b.settled;
      good = b.good;
      left = omega arith;
      wait = λ t. let n = none_left k c (omega (arith, b.settled)) in let z : ◌≡◌ {A = ℕ} 0 1 = cc in absurd (omega arith);
      balance = λ t. let z : ◌≡◌ {A = ℕ} 0 1 = cc in absurd (omega arith);
    }

pub start-bounds : (p : Ticks) (n : ℕ) (c : Bool) → 16384 ≤ p.0 → 1 ≤ n → n ≤ 32 → ScheduleBounds (start_event p n c)
unfolding start_event starts_left in_event
start-bounds p n c l o h =
    record {
      planned = h;
      started = o;
      settled = omega arith;
      good = omega arith;
      left = omega arith;
      wait = λ t. record { long = l; within = omega arith; some = omega arith; apart = λ _. omega arith };
      balance = λ t. record { some = omega arith; busy = λ _. refl; idle = λ y. absurd (omega arith) };
    }

pub halted-bounds : (k : Schedule) → ScheduleBounds k → ScheduleBounds (halt_schedule k)
unfolding halt_schedule starts_left in_event
halted-bounds k b =
    let n = le-ltb k.settled k.settled (omega arith) in
    record {
      planned = omega arith;
      started = omega arith;
      settled = omega arith;
      good = b.good;
      left = omega arith;
      wait = λ t. let z : ◌≡◌ {A = ℕ} 0 1 = cc n in absurd (omega arith);
      balance = λ t. let z : ◌≡◌ {A = ℕ} 0 1 = cc n in absurd (omega arith);
    }

-- an event runs where a start is to come
left-runs : (k : Schedule) → ScheduleBounds k → starts_left k ≡ true → in_event k ≡ true
unfolding starts_left in_event
left-runs k b =
    by-test k.continuous (λ c. rw c (λ t. refl))
    (λ c. rw c
    (by-ltb k.started k.planned
    (λ l e. rw (e, lt-ltb k.settled k.planned (omega (arith, b.settled))) (λ t. refl))
    (λ l e. rw e (λ t. let z : ◌≡◌ {A = ℕ} 0 1 = cc in absurd (omega arith)))))

unsettled-runs : (k : Schedule) → k.settled < k.planned → in_event k ≡ true
unfolding in_event
unsettled-runs k l = rw (lt-ltb k.settled k.planned l) (by-test k.continuous (λ c. rw c) (λ c. rw c))

module _ (k : Schedule) (b : ScheduleBounds k) where
  -- a tick with a start: none is awaited then
  start-idle : starts_left k ≡ true → k.wait.0 ≤ 1 → k.left.0 ≡ 0
  start-idle l w = by-ltb 0 k.left.0 (λ a _. absurd (omega (arith, (b.wait l).apart a))) (λ a _. omega arith)

  begun-bounds :
      starts_left k ≡ true →
      k.wait.0 ≤ 1 →
      begins k ≡ true →
      k.started < k.planned →
      begins_group k ≡ false →
      started_after k ≡ k.started + 1 →
      ScheduleBounds (tick_schedule k)
  unfolding tick_schedule left_after wait_after settled_after good_after fails
  begun-bounds l w e u n s =
      let z : k.left.0 ≡ 0 = start-idle l w in
      let r = b.balance (left-runs k b l) in
      let q = b.wait l in
      rw (e, n, s, z, le-leb k.wait.0 1 w)
      (record {
        planned = b.planned;
        started = omega arith;
        settled = omega arith;
        good = b.good;
        left = omega arith;
        wait = λ t. record { long = q.long; within = omega arith; some = omega arith; apart = λ _. q.long };
        balance = λ t. record { some = omega arith; busy = λ _. omega (arith, r.idle z); idle = λ y. absurd (omega arith) };
      })

  turned-bounds :
      starts_left k ≡ true →
      k.wait.0 ≤ 1 →
      begins k ≡ true →
      begins_group k ≡ true →
      started_after k ≡ 1 →
      ScheduleBounds (tick_schedule k)
  unfolding tick_schedule left_after wait_after settled_after good_after fails
  turned-bounds l w e n s =
      let r = b.balance (left-runs k b l) in
      let q = b.wait l in
      rw (e, n, s, le-leb k.wait.0 1 w)
      (record {
        planned = b.planned;
        started = omega (arith, r.some, b.started);
        settled = omega arith;
        good = omega arith;
        left = omega arith;
        wait = λ t. record { long = q.long; within = omega arith; some = omega arith; apart = λ _. q.long };
        balance = λ t. record { some = omega arith; busy = λ _. refl; idle = λ y. absurd (omega arith) };
      })

  -- the wait after a tick without a start
  spaced-on :
      (left : ℕ) →
      (0 < left → k.left.0 ≡ left + 1) →
      (starts_left k ≡ true → 2 ≤ k.wait.0) →
      starts_left k ≡ true →
      Spaced left (wait_after k) k.period.0
  unfolding wait_after
  spaced-on left more f t =
      let q = b.wait t in
      let w : 1 < k.wait.0 = f t in
      rw (lt-leb k.wait.0 1 w)
      (record {
        long = q.long;
        within = omega (arith, q.within);
        some = omega arith;
        apart = λ a. omega (arith, more a, q.apart (omega (arith, more a)));
      })

  expired-bounds :
      (starts_left k ≡ true → 2 ≤ k.wait.0) →
      begins k ≡ false →
      k.left.0 ≡ 1 →
      k.settled < k.planned →
      ScheduleBounds (tick_schedule k)
  unfolding tick_schedule left_after wait_after settled_after good_after fails starts_left in_event
  expired-bounds f e z u =
      let (n, s) = no-group k e in
      let r = b.balance (unsettled-runs k u) in
      let d = r.busy (omega arith) in
      let p = spaced-on 0 (λ a. absurd (omega arith)) f in
      rw (e, n, s, z, lt-ltb k.settled k.planned u)
      (record {
        planned = b.planned;
        started = b.started;
        settled = omega arith;
        good = omega (arith, b.good);
        left = omega arith;
        wait = p;
        balance = λ t. record { some = r.some; busy = λ a. absurd (omega arith); idle = λ y. d };
      })

  dropped-bounds :
      (starts_left k ≡ true → 2 ≤ k.wait.0) →
      begins k ≡ false →
      k.left.0 ≡ 1 →
      k.planned ≤ k.settled →
      ScheduleBounds (tick_schedule k)
  unfolding tick_schedule left_after wait_after settled_after good_after fails starts_left in_event
  dropped-bounds f e z u =
      let (n, s) = no-group k e in
      let p = spaced-on 0 (λ a. absurd (omega arith)) f in
      rw (e, n, s, z, le-ltb k.settled k.planned u)
      (record {
        planned = b.planned;
        started = b.started;
        settled = b.settled;
        good = b.good;
        left = omega arith;
        wait = p;
        balance =
            λ t.
            by-test k.continuous
            (λ c. absurd (omega (arith, (b.balance (rw c)).busy (omega arith), b.started)))
            (λ c. let z : ◌≡◌ {A = ℕ} 0 1 = cc (rw (c, le-ltb k.settled k.planned u) at t) in absurd (omega arith));
      })

  rested-bounds :
      (starts_left k ≡ true → 2 ≤ k.wait.0) →
      begins k ≡ false →
      fails k ≡ false →
      (0 < left_after k → k.left.0 ≡ left_after k + 1) →
      (left_after k ≡ 0 → k.left.0 ≡ 0) →
      left_after k ≤ 8192 →
      ScheduleBounds (tick_schedule k)
  unfolding tick_schedule settled_after good_after starts_left in_event
  rested-bounds f e g more none most =
      let (n, s) = no-group k e in
      let p = spaced-on (left_after k) more f in
      rw (n, s, g)
      (record {
        planned = b.planned;
        started = b.started;
        settled = b.settled;
        good = b.good;
        left = most;
        wait = p;
        balance =
            λ t.
            let r = b.balance t in
            record { some = r.some; busy = λ a. r.busy (omega (arith, more a)); idle = λ y. r.idle (none y) };
      })

  left-most : begins k ≡ false → left_after k ≤ 8192
  unfolding left_after
  left-most e =
      rw e (by-ltb 0 k.left.0 (λ l f. rw f (omega (arith, b.left))) (λ l f. rw f (omega arith)))

  pub tick-bounds : ScheduleBounds (tick_schedule k)
  unfolding fails
  tick-bounds =
      by-begins k
      (λ l w e. by-group k e (λ u n s. begun-bounds l w e u n s) (λ c u n s. turned-bounds l w e n s))
      (λ f e. by_eqb k.left.0 1
      (λ z _. by-ltb k.settled k.planned (λ u _. expired-bounds f e z u) (λ u _. dropped-bounds f e z u))
      (λ n g. let (more, none) = one_less k n e in rested-bounds f e (rw g) more none (left-most e)))

-- No measurement starts in the tick that fails one.
pub fails-alone : (k : Schedule) → ScheduleBounds k → fails k ≡ true → begins_group k ≡ false
unfolding fails
fails-alone k b e =
    let l : k.left.0 ≡ 1 = eqb-true k.left.0 1 e in
    by-begins k (λ s w t. absurd (omega (arith, (b.wait s).apart (omega arith)))) (λ f t. (no-group k t).0)

-- A failed one adds none to the count.
pub settle-good : (k : Schedule) → (settle k false).good ≡ k.good
unfolding settle
settle-good k = by-test (ltb k.settled k.planned) (λ e. rw e) (λ e. rw e)

pub settle-bounds : (k : Schedule) (good : Bool) → 0 < k.left.0 → ScheduleBounds k → ScheduleBounds (settle k good)
unfolding settle starts_left in_event
settle-bounds k good a b =
    by-ltb k.settled k.planned
    (λ h e.
    let r = b.balance (unsettled-runs k h) in
    let d = r.busy a in
    let g : pick good (k.good + 1) k.good ≤ k.settled + 1 =
    by-test good (λ g. rw g (omega (arith, b.good))) (λ g. rw g (omega (arith, b.good))) in
    rw e
    (record {
      planned = b.planned;
      started = b.started;
      settled = omega arith;
      good = g;
      left = omega arith;
      wait =
          λ t.
          let q = b.wait t in
          record { long = q.long; within = q.within; some = q.some; apart = λ y. absurd (omega arith) };
      balance = λ t. record { some = r.some; busy = λ y. absurd (omega arith); idle = λ y. d };
    }))
    (λ h e. rw e
    (record {
      planned = b.planned;
      started = b.started;
      settled = b.settled;
      good = b.good;
      left = omega arith;
      wait =
          λ t.
          let q = b.wait t in
          record { long = q.long; within = q.within; some = q.some; apart = λ y. absurd (omega arith) };
      balance = λ t. absurd (omega (arith, (b.balance t).busy a, b.started));
    }))

-- The parts of a fresh model, a started event, a tick, and settling.
no-flight-bounds : FlightBounds no_flight
unfolding no_flight no_schedule
no-flight-bounds = record { schedule = no-schedule-bounds; sum = omega arith }

no-temperature-bounds : TemperatureBounds no_temperature
unfolding no_temperature no_schedule
no-temperature-bounds = record { schedule = no-schedule-bounds; sums = omega arith }

flight-event-bounds : (f : Flight) (s : List ℕ) → FlightBounds (flight_event f s)
unfolding flight_event start_event
flight-event-bounds f s =
    record {
      schedule =
          start-bounds (difference_period s) (difference_count s) (event_continuous s) (difference-period-bounds s).0
          (difference-count-bounds s).0 (difference-count-bounds s).1;
      sum = omega arith;
    }

temperature-event-bounds : (t : Temperature) (s : List ℕ) → TemperatureBounds (temperature_event t s)
unfolding temperature_event start_event
temperature-event-bounds t s =
    record {
      schedule =
          start-bounds (temperature_period s) (temperature_count s) (event_continuous s)
          (omega (arith, temperature-period-bounds s)) (temperature-count-bounds s).0 (temperature-count-bounds s).1;
      sums = omega arith;
    }

flight-after-bounds : (f : Flight) → FlightBounds f → FlightBounds (flight_after f)
unfolding flight_after flight_ticked failed_flight
flight-after-bounds f b =
    let k = tick-bounds f.schedule b.schedule in
    let s : (sum_after f).0 ≤ (tick_schedule f.schedule).good * 4294967296 = sum-after in
    chosen FlightBounds (fails f.schedule)
    (record { schedule = k; sum = s })
    (record { schedule = k; sum = s })
  where
    sum-after : (sum_after f).0 ≤ (tick_schedule f.schedule).good * 4294967296
    sum-after =
        unfold sum_after tick_schedule good_after in
        by-test (begins_group f.schedule) (λ e. rw e (omega arith)) (λ e. rw e b.sum)

temperature-after-bounds : (t : Temperature) → TemperatureBounds t → TemperatureBounds (temperature_after t)
unfolding temperature_after
temperature-after-bounds t b =
    let k = tick-bounds t.schedule b.schedule in
    chosen TemperatureBounds (fails t.schedule)
    (record { schedule = k; sums = sums-after })
    (record { schedule = k; sums = sums-after })
  where
    sums-after : PortBounds (sums_after t) (tick_schedule t.schedule).good
    sums-after =
        unfold sums_after tick_schedule good_after in
        by-test (begins_group t.schedule) (λ e. rw e (omega arith)) (λ e. rw e b.sums)

flight-lost-bounds :
    (f : Flight) → 0 < f.schedule.left.0 → FlightBounds f → FlightBounds (failed_flight f (settle f.schedule false))
unfolding failed_flight
flight-lost-bounds f a b =
    record { schedule = settle-bounds f.schedule false a b.schedule; sum = rw (settle-good f.schedule) b.sum }

-- An average below 2^31 keeps the biased difference below 2^32.
biased-below : (u d : List ℕ) (h : ℕ) → six_total u < h * 2147483648 → (biased (average u h) (average d h)).0 ≤ 4294967296
unfolding biased average
biased-below u d h l = omega (arith, quotient-below (six_total u) h 2147483648 l)

flight-good-bounds :
    (f : Flight) (h : ℕ) (u d : List ℕ) →
    six_total u < h * 2147483648 →
    0 < f.schedule.left.0 →
    FlightBounds f →
    FlightBounds (good_flight f h u d)
unfolding good_flight good_sum settle
flight-good-bounds f h u d l a b =
    let k = biased-below u d h l in
    record {
      schedule = settle-bounds f.schedule true a b.schedule;
      sum =
          by-test (ltb f.schedule.settled f.schedule.planned) (λ e. rw e (omega arith)) (λ e. rw e b.sum);
    }

temperature-good-bounds :
    (t : Temperature) (w p : List ℕ) →
    get_or w 0 0 < 2147483648 →
    get_or w 1 0 < 2147483648 →
    get_or w 2 0 < 2147483648 →
    get_or w 3 0 < 2147483648 →
    0 < t.schedule.left.0 →
    TemperatureBounds t →
    TemperatureBounds (record { schedule = settle t.schedule true; sums = good_sums t w; ports = p })
unfolding good_sums settle plus_each
temperature-good-bounds t w p h0 h1 h2 h3 a b =
    record {
      schedule = settle-bounds t.schedule true a b.schedule;
      sums =
          by-test (ltb t.schedule.settled t.schedule.planned) (λ e. rw e (omega arith)) (λ e. rw e b.sums);
    }

temperature-lost-bounds :
    (t : Temperature) (p : List ℕ) →
    0 < t.schedule.left.0 →
    TemperatureBounds t →
    TemperatureBounds (record { schedule = settle t.schedule false; sums = t.sums; ports = p })
temperature-lost-bounds t p a b =
    record {
      schedule = settle-bounds t.schedule false a b.schedule;
      sums = rw (settle-good t.schedule) b.sums;
    }

-- A fresh model, and each accepted call.
factory-alarm : alarm_valid (alarm_word factory) ≡ true
unfolding factory alarm_word alarm_valid time_digits minute_in hour_fits hour_named hour_in twelve_in
factory-alarm = refl

pub fresh-bounds : (s : Status) → Bounds (fresh_with s)
unfolding fresh_with
fresh-bounds s = record { clock = start-valid; alarm = factory-alarm; flight = no-flight-bounds; temperature = no-temperature-bounds }

tick-model-bounds : (m : Model) → Bounds m → Bounds (tick_model m)
unfolding tick_model clock_ticked
tick-model-bounds m b =
    record {
      clock =
          chosen (λ c. clock_valid c ≡ true) (clock_stands m.setup) b.clock (tick-valid m.clock b.clock);
      alarm = b.alarm;
      flight = flight-after-bounds m.flight b.flight;
      temperature = temperature-after-bounds m.temperature b.temperature;
    }

words-clock : (w30 w31 w32 w33 : ℕ) (t : Ticks) →
    words_valid w30 w31 w32 w33 t ≡ true →
    clock_valid (clock_from w30 w31 w32 w33 t) ≡ true
unfolding words_valid
words-clock w30 w31 w32 w33 t e = (held (hour_fits w31) (held (digits_fit w30 w31 w32 w33) e).1).1

write-bounds :
    (bytes : List ℕ) (op n : ℕ) (m : Model) →
    write_invalid bytes op n m ≡ false →
    Bounds m →
    Bounds (write_model bytes op n m)
unfolding write_invalid write_model clock_after
write-bounds bytes op n m e b =
    record {
      clock = words-clock _ _ _ _ _ (both_true _ _ (negated _ e)).0;
      alarm =
          (both_true (of_calendar bytes op n m words_valid) (alarm_valid (alarm_word (setup_after bytes op m.setup n))) (negated _ e)).1;
      flight = b.flight;
      temperature = b.temperature;
    }

single-started-bounds : (m : Model) (op : ℕ) → is_busy m ≡ false → Bounds m → Bounds (single_started m op)
unfolding single_started flight_started is_busy
single-started-bounds m op i b =
    let f = b.flight in
    let t = b.temperature in
    let (j, k) = neither (kind_busy m.flight.schedule) (kind_busy m.temperature.schedule) i in
    chosen Bounds (eqb op 3)
    (record {
      clock = b.clock;
      alarm = b.alarm;
      flight = f;
      temperature = record { schedule = single-bounds m.temperature.schedule k t.schedule; sums = unfold start_single in t.sums };
    })
    (record {
      clock = b.clock;
      alarm = b.alarm;
      flight = record { schedule = single-bounds m.flight.schedule j f.schedule; sum = unfold start_single in f.sum };
      temperature = t;
    })

started-event-bounds : (m : Model) (op : ℕ) → Bounds m → Bounds (started_event m op)
unfolding started_event event_flight event_temperature
started-event-bounds m op b =
    record {
      clock = b.clock;
      alarm = b.alarm;
      flight =
          chosen FlightBounds (starts_flight op) (flight-event-bounds m.flight m.setup) b.flight;
      temperature =
          chosen TemperatureBounds (starts_temperature op) (temperature-event-bounds m.temperature m.setup)
          b.temperature;
    }

halted-model-bounds : (m : Model) → Bounds m → Bounds (halted_model m)
unfolding halted_model halt_schedule
halted-model-bounds m b =
    let f = b.flight in
    let t = b.temperature in
    record {
      clock = b.clock;
      alarm = b.alarm;
      flight = record { schedule = halted-bounds m.flight.schedule f.schedule; sum = f.sum };
      temperature = record { schedule = halted-bounds m.temperature.schedule t.schedule; sums = t.sums };
    }

-- every command but HALT and Reset needs an idle model
must-idle : (m : Model) (op : ℕ) → command_busy m op ≡ false → eqb op 4 ≡ false → eqb op 10 ≡ false → is_busy m ≡ false
unfolding command_busy must_be_idle
must-idle m op i e f = rw (e, f) at i

run-bounds : (m : Model) (op : ℕ) → command_busy m op ≡ false → Bounds m → Bounds (run_model m op)
unfolding run_model reset_model initialised_model supplied unsupplied
run-bounds m op i b =
    picked Bounds (eqb op 4) (λ _. fresh-bounds no_bits)
    (λ e. chosen Bounds (eqb op 5) (record { clock = b.clock; alarm = b.alarm; flight = b.flight; temperature = b.temperature })
    (picked Bounds (eqb op 10) (λ _. halted-model-bounds m b)
    (λ f. chosen Bounds (eqb op 12) (record { clock = b.clock; alarm = b.alarm; flight = b.flight; temperature = b.temperature })
    (chosen Bounds (eqb op 13) (record { clock = b.clock; alarm = b.alarm; flight = b.flight; temperature = b.temperature })
    (chosen Bounds (is_event op) (started-event-bounds m op b) (single-started-bounds m op (must-idle m op i e f) b))))))

read-bounds : (m : Model) (a n : ℕ) → Bounds m → Bounds (read_model m a n)
unfolding read_model
read-bounds m a n b =
    chosen Bounds (ltb 0xFE a) b
    (chosen Bounds (leb (a + n) 0xFE) b
    (record { clock = b.clock; alarm = b.alarm; flight = b.flight; temperature = b.temperature }))

flash-bounds : (m : Model) (op : ℕ) → Bounds m → Bounds (flash_model m op)
unfolding flash_model
flash-bounds m op b =
    chosen Bounds (eqb op 0x90) b (record { clock = b.clock; alarm = b.alarm; flight = b.flight; temperature = b.temperature })

-- A delivered list that row Refusal.WordCount lets pass has at most H words.
same_count_lem : (measured : Bool) (hits given : ℕ) → same_count measured hits given ≡ true → given ≤ hits
unfolding same_count
same_count_lem true hits given e = omega (arith, eqb-true given hits e)
same_count_lem false hits given e = omega (arith, eqb-true given 0 e)

pub hits-counted :
    (f : Flight) (hits ups downs : ℕ) →
    flight_miscounted f hits ups downs ≡ false →
    (ups ≤ hits) × (downs ≤ hits)
unfolding flight_miscounted
hits-counted f hits ups downs e =
    let (u, d) = both_true (same_count f.up hits ups) (same_count f.down hits downs) (negated _ e) in
    (same_count_lem f.up hits ups u, same_count_lem f.down hits downs d)

-- Where no word is late, the six words of each direction have an average below 2^31.
pub hits-below :
    (m : Model) (u d : List ℕ) →
    miscounted m (flight u d) ≡ false →
    any_late m u d ≡ false →
    (six_total (six_words u) < hit_count m.setup * 2147483648) × (six_total (six_words d) < hit_count m.setup * 2147483648)
unfolding miscounted any_late
hits-below m u d e late =
    let h : ℕ = hit_count m.setup in
    let k : ℕ = timeout m.setup in
    let (lu, ld) = hits-counted m.flight h (length u) (length d) e in
    let (nu, nd) = neither (any_from (late_from k) u) (any_from (late_from k) d) late in
    let (some, most) = hits-bounds m.setup in
    (hits-fit k h u lu some most nu, hits-fit k h d ld some most nd)

-- A delivery is accepted only while its kind is awaited.
pub left-some : (k : Schedule) → negate (is_awaited k) ≡ false → 0 < k.left.0
unfolding is_awaited
left-some k a = ltb-true 0 k.left.0 (negated (is_awaited k) a)

flight-bounds :
    (m : Model) (u d : List ℕ) →
    not_awaited m (flight u d) ≡ false →
    miscounted m (flight u d) ≡ false →
    Bounds m →
    Bounds (accepted_model m (flight u d))
unfolding accepted_model failed_flight_model good_flight_model not_awaited
flight-bounds m u d w e b =
    let a = left-some m.flight.schedule w in
    by-test (any_late m u d)
    (λ l. rw l
    (record { clock = b.clock; alarm = b.alarm; flight = flight-lost-bounds m.flight a b.flight; temperature = b.temperature }))
    (λ l. rw l
    (record {
      clock = b.clock;
      alarm = b.alarm;
      flight =
          flight-good-bounds m.flight (hit_count m.setup) (six_words u) (six_words d) (hits-below m u d e l).0 a b.flight;
      temperature = b.temperature;
    }))

-- Where no port is open or short, each word is below 2^31.
pub ports-good :
    (m : Model) (w : List ℕ) →
    miscounted m (temperature w) ≡ false →
    port_fault m w ≡ false →
    Good (open_from (port_cycle m.setup)) w
unfolding miscounted port_fault
ports-good m w e o =
    good-ports (port_cycle m.setup) (cycle-below m.setup) w
    (eqb-true (length w) 4 (negated (eqb (length w) 4) e)) o

temperature-bounds :
    (m : Model) (w : List ℕ) →
    not_awaited m (temperature w) ≡ false →
    miscounted m (temperature w) ≡ false →
    Bounds m →
    Bounds (accepted_model m (temperature w))
unfolding accepted_model failed_temperature_model good_temperature_model four_words not_awaited
temperature-bounds m w n e b =
    let a = left-some m.temperature.schedule n in
    by-test (port_fault m w)
    (λ o. rw o
    (record {
      clock = b.clock;
      alarm = b.alarm;
      flight = b.flight;
      temperature = temperature-lost-bounds m.temperature _ a b.temperature;
    }))
    (λ o. rw o
    (let g = ports-good m w e o in
    record {
      clock = b.clock;
      alarm = b.alarm;
      flight = b.flight;
      temperature =
          temperature-good-bounds m.temperature (four_words w) (four_words w) g.first g.second g.third g.fourth a
          b.temperature;
    }))

transaction-bounds :
    (m : Model) (f o x : List ℕ) →
    while_busy m (transaction f o x) ≡ false →
    bad_calendar m (transaction f o x) ≡ false →
    Bounds m →
    Bounds (accepted_model m (transaction f o x))
unfolding accepted_model while_busy supply_off unreachable unerased bad_calendar
transaction-bounds m f o x i e b =
    by-test (is_command (opcode f)) (λ c. rw c (run-bounds m (opcode f) (rw c at i) b))
    (λ c. by-test (is_write (opcode f))
    (λ w. rw (c, w) (write-bounds (drop 1 f) (opcode f) (words f) m (rw (c, w) at e) b))
    (λ w. by-test (is_flash (opcode f))
    (λ u. rw (c, w, u) (flash-bounds m (opcode f) b))
    (λ u. rw (c, w, u) (read-bounds m (opcode f) (words f) b))))

pub ticked-bounds : (n : ℕ) (m : Model) → Bounds m → Bounds (model_ticked n m)
unfolding model_ticked
ticked-bounds zero m b = b
ticked-bounds (suc n) m b = tick-model-bounds (model_ticked n m) (ticked-bounds n m b)

accepted-bounds : (m : Model) (c : Call) → NoneHolds m c → Bounds m → Bounds (accepted_model m c)
accepted-bounds m (transaction f o x) n b = transaction-bounds m f o x n.row6 n.row7 b
accepted-bounds m tick n b = unfold accepted_model in tick-model-bounds m b
accepted-bounds m (flight u d) n b = flight-bounds m u d n.row10 n.row11 b
accepted-bounds m (temperature w) n b = temperature-bounds m w n.row10 n.row11 b
accepted-bounds m (stretch k) n b = unfold accepted_model in ticked-bounds k m b

-- "a fresh model is sound and every call keeps it so"
pub fresh-sound : is_sound fresh_model ≡ true
unfolding fresh_model
fresh-sound = sound-of fresh_model (fresh-bounds por_bit)

pub keeps-sound : (m : Model) (c : Call) → is_sound m ≡ true → is_sound (reply m c).model ≡ true
unfolding reply reply_by
keeps-sound m c s = go (verdict m c) refl
  where
    go : (v : Verdict) → verdict m c ≡ v → is_sound (reply_by v m c).model ≡ true
    go accepted e = sound-of (accepted_model m c) (accepted-bounds m c (none-holds m c e) (bounds_of m s))
    go (refused n) e = s

-- What the code's parts ask of a sound model.
pub sound-temperature : (m : Model) → is_sound m ≡ true → temperature_sound m.temperature ≡ true
sound-temperature m s = temperature-sound m.temperature (bounds_of m s).temperature

pub sound-flight : (m : Model) → is_sound m ≡ true → flight_sound m.flight ≡ true
sound-flight m s = flight-sound m.flight (bounds_of m s).flight

-- A delivery of the right counts on a sound model.
pub record Ready (m : Model) (u d : List ℕ) : Type 0 where
  pub sound-model : is_sound m ≡ true
  pub counted : miscounted m (flight u d) ≡ false

not-holds : (b : Bool) → negate b ≡ true → b ≡ false
not-holds true e = sym e
not-holds false e = refl

pub ready_of : (m : Model) (u d : List ℕ) → flight_fits m u d ≡ true → Ready m u d
unfolding flight_fits miscounted
ready_of m u d e =
    let (s, n) =
    both_true (is_sound m) (negate (flight_miscounted m.flight (hit_count m.setup) (length u) (length d))) e
    in
    record {
      sound-model = s;
      counted = not-holds (flight_miscounted m.flight (hit_count m.setup) (length u) (length d)) n;
    }

pub flight-ready : (m : Model) (u d : List ℕ) → flight_fits m u d ≡ true → flight_sound m.flight ≡ true
flight-ready m u d e = sound-flight m (ready_of m u d e).sound-model

pub fits-ready :
    (m : Model) (u d : List ℕ) →
    is_sound m ≡ true →
    flight_miscounted m.flight (hit_count m.setup) (length u) (length d) ≡ false →
    flight_fits m u d ≡ true
unfolding flight_fits
fits-ready m u d s c = rw (s, c)

-- Good hits: neither list has a late word.
pub good-hits :
    (m : Model) (u d : List ℕ) →
    flight_fits m u d ≡ true →
    any_late m u d ≡ false →
    (six_total (six_words u) < hit_count m.setup * 2147483648) × (six_total (six_words d) < hit_count m.setup * 2147483648)
good-hits m u d e late = hits-below m u d (ready_of m u d e).counted late
