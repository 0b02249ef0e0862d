-- What deliveries, awaited and expiry mean, and that the third demand's hypotheses can be met.
use Prim.Native.Nat.{ℕ, ◌≤◌, ◌<◌}
use native.Mathlib.Omega.{arith}
use mathlib.Core.Bool.{Bool, true, false}
use mathlib.Core.List.{List, [], ◌∷◌, map}
use mathlib.Core.Logic.{◌↔◌}
use mathlib.Core.Path.{◌≡◌, refl, sym, ◌∙◌}
use lib.ListN.{length, get_or}
use lib.Dec.{ltb, eqb}
use Rattle.unit.specs.Choice.{pick}
use Rattle.unit.proofs.Cases.{by-test, by-ltb, by_eqb, holds, fails}
use Rattle.unit.specs.declared.Quanta.{Quanta}
use Rattle.setup.specs.Setup.{hit_count}
use Rattle.hit.proofs.Ports.{all-open}
use Rattle.device.specs.declared.Schedule.{Schedule}
use Rattle.device.specs.declared.Flight.{Flight}
use Rattle.device.specs.declared.Temperature.{Temperature}
use Rattle.device.specs.declared.Model.{Model}
use Rattle.device.specs.Event.{is_awaited, begins_group, fails as expires, tick_schedule, settled_after, good_after, settle}
use Rattle.device.specs.declared.Status.{Status}
use Rattle.device.specs.Status.{no_bits, joined, alarm_bit, flight_bits, temperature_bits}
use Rattle.device.specs.Model.{is_sound}
use Rattle.device.specs.Results.{failed_difference, failed_flight}
use Rattle.device.specs.Tick.{sum_after, sums_after, flight_ticked, flight_after, temperature_after, clock_ticked, tick_rings, tick_status, tick_model}
use Rattle.device.specs.Delivery.{same_count, flight_miscounted, flight_status, failed_flight_model, temperature_status, failed_temperature_model}
use Rattle.device.specs.Bus.{flight_started, flight_event}
use Rattle.device.proofs.Sound.{bounds_of, fails-alone}
use Rattle.device.proofs.StatusMeaning.{kept}
use Rattle.device.specs.Call.{flight, temperature, refused, verdict, table, first_of}
use Rattle.device.specs.Question.{awaited_told}
use Rattle.device.specs.Call.{no_frame, not_carried, wrong_length, past_registers, short_output, while_busy, supply_off, unreachable, unerased, bad_calendar}
use Rattle.device.specs.Call.{not_initialised, bad_setup, not_awaited, miscounted, too_long}
use Rattle.refusal.specs.declared.Refusal.{Refusal}
use Rattle.std.specs.Prelude.{Result, Ok, Err}

-- "an up list and a down list, each of H words ..; the unmeasured direction's list is empty"
same-means : (measured : Bool) (hits given : ℕ) → (same_count measured hits given ≡ true) ↔ (given ≡ pick measured hits 0)
unfolding same_count
same-means true hits given = by_eqb given hits (λ h e. rw e (holds h)) (λ h e. rw e (fails false h))
same-means false hits given = by_eqb given 0 (λ h e. rw e (holds h)) (λ h e. rw e (fails false h))

pub count-means :
    (f : Flight) (hits ups downs : ℕ) →
    (flight_miscounted f hits ups downs ≡ false) ↔ ((ups ≡ pick f.up hits 0) × (downs ≡ pick f.down hits 0))
unfolding flight_miscounted
count-means f hits ups downs =
    by-test (same_count f.up hits ups)
    (λ e. by-test (same_count f.down hits downs)
    (λ g. rw (e, g) (holds ((same-means f.up hits ups).0 e, (same-means f.down hits downs).0 g)))
    (λ g. rw (e, g) (fails true (λ x. differ (sym g ∙ (same-means f.down hits downs).1 x.1)))))
    (λ e. rw e (fails true (λ x. differ (sym e ∙ (same-means f.up hits ups).1 x.0))))
  where
    differ : ◌≡◌ {A = Bool} false true → ⊥
    differ e = let z : ◌≡◌ {A = ℕ} 0 1 = cc in omega arith

-- "TOF_Up (00h), TOF_Down (01h), TOF_Diff (02h) start a flight measurement": the directions that each measures
pub directions :
    (f : Flight) →
    (map (λ (op : ℕ). (flight_started f op).up) (0 ∷ 1 ∷ 2 ∷ []) ≡ true ∷ false ∷ true ∷ []) ×
    (map (λ (op : ℕ). (flight_started f op).down) (0 ∷ 1 ∷ 2 ∷ []) ≡ false ∷ true ∷ true ∷ [])
unfolding flight_started
directions f = (refl, refl)

-- "07h runs both kinds, 08h differences"
pub event-directions :
    (f : Flight) (setup : List ℕ) → ((flight_event f setup).up ≡ true) × ((flight_event f setup).down ≡ true)
unfolding flight_event
event-directions f setup = (refl, refl)

-- "Awaited is then 1, exactly when number 10 would not be given for it, else 0."
pub awaited-flight :
    (m : Model) →
    is_sound m ≡ true →
    (u d : List ℕ) →
    (awaited_told m m.flight.schedule ≡ Ok 0) ↔ (verdict m (flight u d) ≡ refused Refusal.NotAwaited)
unfolding awaited_told verdict table first_of no_frame not_carried wrong_length past_registers short_output while_busy supply_off unreachable unerased bad_calendar not_initialised bad_setup not_awaited miscounted too_long
awaited-flight m s u d =
    rw s
    (by-test (is_awaited m.flight.schedule)
    (λ a. by-test (flight_miscounted m.flight (hit_count m.setup) (length u) (length d))
    (λ c. rw (a, c) (λ e. let z : ◌≡◌ {A = ℕ} 0 1 = cc in absurd (omega arith), λ e. let z : ◌≡◌ {A = ℕ} 11 10 = cc in absurd (omega arith)))
    (λ c. rw (a, c) (λ e. let z : ◌≡◌ {A = ℕ} 0 1 = cc in absurd (omega arith), λ e. let z : ◌≡◌ {A = ℕ} 0 1 = cc in absurd (omega arith))))
    (λ a. rw a (λ e. refl, λ e. refl)))

pub awaited-temperature :
    (m : Model) →
    is_sound m ≡ true →
    (w : List ℕ) →
    (awaited_told m m.temperature.schedule ≡ Ok 0) ↔ (verdict m (temperature w) ≡ refused Refusal.NotAwaited)
unfolding awaited_told verdict table first_of no_frame not_carried wrong_length past_registers short_output while_busy supply_off unreachable unerased bad_calendar not_initialised bad_setup not_awaited miscounted too_long
awaited-temperature m s w =
    rw s
    (by-test (is_awaited m.temperature.schedule)
    (λ a. by-test (eqb (length w) 4)
    (λ c. rw (a, c) (λ e. let z : ◌≡◌ {A = ℕ} 0 1 = cc in absurd (omega arith), λ e. let z : ◌≡◌ {A = ℕ} 0 1 = cc in absurd (omega arith)))
    (λ c. rw (a, c) (λ e. let z : ◌≡◌ {A = ℕ} 0 1 = cc in absurd (omega arith), λ e. let z : ◌≡◌ {A = ℕ} 11 10 = cc in absurd (omega arith))))
    (λ a. rw a (λ e. refl, λ e. refl)))

-- "a delivery with another number of words": number 11, both ways, of a kind that is awaited
module _ (m : Model) (s : is_sound m ≡ true) where
  pub flight-count :
      (u d : List ℕ) →
      not_awaited m (flight u d) ≡ false →
      (verdict m (flight u d) ≡ refused Refusal.WordCount)
      ↔ (¬ ((length u ≡ pick m.flight.up (hit_count m.setup) 0) × (length d ≡ pick m.flight.down (hit_count m.setup) 0)))
  unfolding verdict table first_of no_frame not_carried wrong_length past_registers short_output while_busy supply_off unreachable unerased bad_calendar not_initialised bad_setup not_awaited miscounted too_long
  flight-count u d =
      rw s
      (by-test (is_awaited m.flight.schedule)
      (λ a. by-test (flight_miscounted m.flight (hit_count m.setup) (length u) (length d))
      (λ c. rw (a, c) (λ _. (λ x y. differ (sym ((count-means m.flight (hit_count m.setup) (length u) (length d)).1 y) ∙ c), λ n. refl)))
      (λ c. rw (a, c) (λ _. (λ x. let z : ◌≡◌ {A = ℕ} 0 1 = cc in absurd (omega arith), λ n. absurd (n ((count-means m.flight (hit_count m.setup) (length u) (length d)).0 c))))))
      (λ a. rw a (λ x. let z : ◌≡◌ {A = ℕ} 0 1 = cc in absurd (omega arith))))
    where
      differ : ◌≡◌ {A = Bool} false true → ⊥
      differ e = let z : ◌≡◌ {A = ℕ} 0 1 = cc in omega arith

  pub temperature-count :
      (w : List ℕ) → not_awaited m (temperature w) ≡ false → (verdict m (temperature w) ≡ refused Refusal.WordCount) ↔ (¬ (length w ≡ 4))
  unfolding verdict table first_of no_frame not_carried wrong_length past_registers short_output while_busy supply_off unreachable unerased bad_calendar not_initialised bad_setup not_awaited miscounted too_long
  temperature-count w =
      rw s
      (by-test (is_awaited m.temperature.schedule)
      (λ a. by_eqb (length w) 4
      (λ h c. rw (a, c) (λ _. (λ x. let z : ◌≡◌ {A = ℕ} 0 1 = cc in absurd (omega arith), λ n. absurd (n h))))
      (λ h c. rw (a, c) (λ _. (λ x. h, λ n. refl))))
      (λ a. rw a (λ x. let z : ◌≡◌ {A = ℕ} 0 1 = cc in absurd (omega arith))))

pub awaited-one : (m : Model) (k : Schedule) → is_sound m ≡ true → (awaited_told m k ≡ Ok 1) ↔ (0 < k.left.0)
unfolding awaited_told is_awaited
awaited-one m k s =
    rw s
    (by-ltb 0 k.left.0
    (λ h e. rw e (λ x. h, λ x. refl))
    (λ h e. rw e (λ x. let z : ◌≡◌ {A = ℕ} 0 1 = cc in absurd (omega arith), λ x. absurd (omega arith))))

-- "A measurement undelivered 8,192 ticks after its start fails in that tick, as if all its words were late or open."
pub expires-means : (k : Schedule) → (expires k ≡ true) ↔ (k.left.0 ≡ 1)
unfolding expires
expires-means k = by_eqb k.left.0 1 (λ h e. rw e (holds h)) (λ h e. rw e (fails false h))

expired-settled :
    (k : Schedule) → begins_group k ≡ false → expires k ≡ true → (tick_schedule k).settled ≡ (settle k false).settled
unfolding tick_schedule settled_after settle
expired-settled k n e = rw (n, e) (by-test (ltb k.settled k.planned) (λ f. rw f) (λ f. rw f))

expired-good : (k : Schedule) → begins_group k ≡ false → (tick_schedule k).good ≡ (settle k false).good
unfolding tick_schedule good_after settle
expired-good k n = rw n (by-test (ltb k.settled k.planned) (λ f. rw f) (λ f. rw f))

pub record SameFlight (f g : Flight) : Type 0 where
  pub ups : f.ups ≡ g.ups
  pub downs : f.downs ≡ g.downs
  pub difference : f.difference ≡ g.difference
  pub sum : f.sum ≡ g.sum
  pub settled : f.schedule.settled ≡ g.schedule.settled
  pub good : f.schedule.good ≡ g.schedule.good

pub flight-expires :
    (m : Model) →
    is_sound m ≡ true →
    expires m.flight.schedule ≡ true →
    SameFlight (tick_model m).flight (failed_flight_model m).flight
unfolding tick_model flight_after flight_ticked sum_after failed_flight_model failed_flight failed_difference
flight-expires m s e =
    let n = fails-alone m.flight.schedule (bounds_of m s).flight.schedule e in
    rw (e, n)
    (record {
      ups = refl;
      downs = refl;
      difference = refl;
      sum = refl;
      settled = expired-settled m.flight.schedule n e;
      good = expired-good m.flight.schedule n;
    })

pub record SameTemperature (f g : Temperature) : Type 0 where
  pub ports : f.ports ≡ g.ports
  pub sums : f.sums ≡ g.sums
  pub settled : f.schedule.settled ≡ g.schedule.settled
  pub good : f.schedule.good ≡ g.schedule.good

pub temperature-expires :
    (m : Model) (limit : Quanta) (w : List ℕ) →
    is_sound m ≡ true →
    limit.0 ≤ get_or w 0 0 →
    limit.0 ≤ get_or w 1 0 →
    limit.0 ≤ get_or w 2 0 →
    limit.0 ≤ get_or w 3 0 →
    expires m.temperature.schedule ≡ true →
    SameTemperature (tick_model m).temperature (failed_temperature_model m limit true w).temperature
unfolding tick_model temperature_after sums_after failed_temperature_model
temperature-expires m limit w s h i j k e =
    let n = fails-alone m.temperature.schedule (bounds_of m s).temperature.schedule e in
    rw (e, n)
    (record {
      ports = sym (all-open limit w h i j k);
      sums = refl;
      settled = expired-settled m.temperature.schedule n e;
      good = expired-good m.temperature.schedule n;
    })

-- and as the failed delivery does, it sets the bits: of a tick in which nothing else sets one
pub no_bits_lem : (s : Status) → joined s no_bits ≡ s
unfolding joined no_bits
no_bits_lem s = simp kept

pub no-alarm : (s : Status) → joined s (alarm_bit false) ≡ s
unfolding joined alarm_bit
no-alarm s = simp kept

module _ (m : Model) (a : tick_rings m (clock_ticked m) ≡ false) where
  pub flight-expiry-bits :
      expires m.flight.schedule ≡ true →
      expires m.temperature.schedule ≡ false →
      (tick_model m).status ≡ (failed_flight_model m).status
  unfolding tick_model tick_status failed_flight_model flight_status temperature_bits
  flight-expiry-bits e f = rw (a, e, f) (simp (no-alarm, no_bits_lem))

  pub temperature-expiry-bits :
      (limit : Quanta) (w : List ℕ) →
      expires m.temperature.schedule ≡ true →
      expires m.flight.schedule ≡ false →
      (tick_model m).status ≡ (failed_temperature_model m limit true w).status
  unfolding tick_model tick_status failed_temperature_model temperature_status flight_bits
  temperature-expiry-bits limit w e f = rw (a, e, f) (simp (no-alarm, no_bits_lem))
