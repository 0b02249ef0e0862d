-- What each accepted command leaves.
use Prim.Native.Nat.{ℕ, zero, suc, ◌≤◌}
use native.Mathlib.Omega.{arith}
use mathlib.Core.Bool.{true, false}
use mathlib.Core.List.{List, [], ◌∷◌, map}
use mathlib.Core.Path.{◌≡◌, refl}
use lib.Dec.{eqb}
use borrow.Author.Tests.{le-ltb, le-leb, lt-leb, ne_eqb, eqb-true}
use Rattle.unit.specs.Choice.{either}
use Rattle.unit.proofs.Cases.{by-test, by-ltb, by_eqb}
use Rattle.frame.specs.Frame.{is_command, is_write, is_flash}
use Rattle.setup.specs.Setup.{difference_period, difference_count, temperature_period, temperature_count, event_continuous}
use Rattle.hit.specs.Difference.{difference_mean, port_mean}
use Rattle.device.specs.declared.Model.{Model}
use Rattle.device.specs.Event.{is_awaited, no_schedule, start_single, start_event}
use Rattle.device.specs.Model.{fresh_with, reset_model, no_flight, no_temperature, with_flight}
use Rattle.device.specs.Registers.{half, calendar_word, flight_word, temperature_word, register_word, upwards}
use Rattle.device.specs.Bus.{starts_flight, starts_temperature, is_event, flight_started, flight_event, temperature_event}
use Rattle.device.specs.Bus.{event_flight, event_temperature, started_event, initialised_model, halted_model, single_started, supplied, unsupplied, run_model}
use Rattle.device.specs.Call.{Call, transaction, tick, flight, temperature, stretch, accepted, verdict, not_awaited}
use Rattle.device.specs.Reply.{accepted_answer, reply, reply_by, values_in, flag}
use Rattle.device.specs.History.{Kind, differences, temperatures, by_kind}
use Rattle.demands.specs.EventHistory.{runs, is_delivery}
use Rattle.demands.specs.Claim.{command}
use Rattle.device.specs.Plain.{words_at, repeated}
use Rattle.demands.specs.Terms.{single}

module _ (m : Model) where
  -- "04h Reset", "05h Initialize", "0Ah HALT"
  pub run-others : (run_model m 4 ≡ reset_model) × (run_model m 5 ≡ initialised_model m) × (run_model m 10 ≡ halted_model m)
  unfolding run_model
  run-others = (refl, refl, refl)

  -- "TOF_Up (00h), TOF_Down (01h), TOF_Diff (02h) start a flight measurement": nothing else changes, no result either
  pub run-flights :
      map (run_model m) (0 ∷ 1 ∷ 2 ∷ [])
      ≡ with_flight m (flight_started m.flight 0) ∷
      with_flight m (flight_started m.flight 1) ∷
      with_flight m (flight_started m.flight 2) ∷
      []
  unfolding run_model is_event single_started
  run-flights = refl

  -- "Temperature (03h) a temperature one"
  pub run-temperature :
      ((run_model m 3).temperature.schedule ≡ start_single m.temperature.schedule) ×
      ((run_model m 3).temperature.sums ≡ m.temperature.sums) ×
      ((run_model m 3).temperature.ports ≡ m.temperature.ports) ×
      ((run_model m 3).flight ≡ m.flight) ×
      ((run_model m 3).clock ≡ m.clock) ×
      ((run_model m 3).setup ≡ m.setup) ×
      ((run_model m 3).status ≡ m.status) ×
      ((run_model m 3).initialised ≡ m.initialised) ×
      ((run_model m 3).regulator ≡ m.regulator)
  unfolding run_model is_event single_started
  run-temperature = (refl, refl, refl, refl, refl, refl, refl, refl, refl)

  -- "07h runs both kinds, 08h differences, 09h temperatures.", with P and N of the set-up
  pub runs-differences :
      map (λ (op : ℕ). (run_model m op).flight.schedule) (7 ∷ 8 ∷ 9 ∷ [])
      ≡ start_event (difference_period m.setup) (difference_count m.setup) (event_continuous m.setup) ∷
      start_event (difference_period m.setup) (difference_count m.setup) (event_continuous m.setup) ∷
      m.flight.schedule ∷
      []
  unfolding run_model is_event started_event event_flight starts_flight flight_event
  runs-differences = refl

  pub runs-temperatures :
      map (λ (op : ℕ). (run_model m op).temperature.schedule) (7 ∷ 8 ∷ 9 ∷ [])
      ≡ start_event (temperature_period m.setup) (temperature_count m.setup) (event_continuous m.setup) ∷
      m.temperature.schedule ∷
      start_event (temperature_period m.setup) (temperature_count m.setup) (event_continuous m.setup) ∷
      []
  unfolding run_model is_event started_event event_temperature starts_temperature temperature_event
  runs-temperatures = refl

  -- "Acceptance zeroes cycle counts (E4h, EFh) and averages (E5h, E6h; F0h to F7h) of the kinds run."
  pub zeroed-differences :
      (map (register_word (run_model m 7)) (upwards 0xE4 3) ≡ 0 ∷ 0 ∷ 0 ∷ []) ×
      (map (register_word (run_model m 8)) (upwards 0xE4 3) ≡ 0 ∷ 0 ∷ 0 ∷ []) ×
      (map (register_word (run_model m 9)) (upwards 0xE4 3) ≡ map (register_word m) (upwards 0xE4 3))
  unfolding run_model is_event started_event event_flight starts_flight flight_event start_event register_word flight_word half difference_mean
  zeroed-differences = (refl, refl, refl)

  pub zeroed-temperatures :
      (map (register_word (run_model m 7)) (upwards 0xEF 9) ≡ 0 ∷ 0 ∷ 0 ∷ 0 ∷ 0 ∷ 0 ∷ 0 ∷ 0 ∷ 0 ∷ []) ×
      (map (register_word (run_model m 8)) (upwards 0xEF 9) ≡ map (register_word m) (upwards 0xEF 9)) ×
      (map (register_word (run_model m 9)) (upwards 0xEF 9) ≡ 0 ∷ 0 ∷ 0 ∷ 0 ∷ 0 ∷ 0 ∷ 0 ∷ 0 ∷ 0 ∷ [])
  unfolding run_model is_event started_event event_temperature starts_temperature temperature_event start_event register_word temperature_word half port_mean
  zeroed-temperatures = (refl, refl, refl)

  -- an event's start leaves the results of single measurements
  pub event-keeps-results :
      (op : ℕ) →
      ((event_flight m op).ups ≡ m.flight.ups) ×
      ((event_flight m op).downs ≡ m.flight.downs) ×
      ((event_flight m op).difference ≡ m.flight.difference) ×
      ((event_temperature m op).ports ≡ m.temperature.ports)
  unfolding event_flight event_temperature flight_event temperature_event
  event-keeps-results op =
      by-test (starts_flight op)
      (λ e. by-test (starts_temperature op) (λ f. rw (e, f) (refl, refl, refl, refl)) (λ f. rw (e, f) (refl, refl, refl, refl)))
      (λ e. by-test (starts_temperature op) (λ f. rw (e, f) (refl, refl, refl, refl)) (λ f. rw (e, f) (refl, refl, refl, refl)))

-- "An accepted transaction answers the kinds that it started"
flight-starts : (op : ℕ) → starts_flight op ≡ either (single differences op) (runs differences op)
unfolding starts_flight single runs
flight-starts op = by-ltb op 3 (λ h e. rw (e, le-leb op 2 (omega arith))) (λ h e. rw (e, lt-leb op 2 (omega arith)))

temperature-starts : (op : ℕ) → starts_temperature op ≡ either (single temperatures op) (runs temperatures op)
unfolding starts_temperature single runs
temperature-starts op = refl

no-command : (op : ℕ) → is_command op ≡ false → (starts_flight op ≡ false) × (starts_temperature op ≡ false)
unfolding starts_flight starts_temperature is_command
no-command op =
    by-ltb op 4 (λ h e. rw (le-ltb 0x0D op (omega arith), ne_eqb op 6 (λ x. omega arith), ne_eqb op 11 (λ x. omega arith)) (λ c. let z : ◌≡◌ {A = ℕ} 0 1 = cc in absurd (omega arith)))
    (λ h e. by_eqb op 7 (λ i f. rw i (λ c. let z : ◌≡◌ {A = ℕ} 0 1 = cc in absurd (omega arith)))
    (λ i f. by_eqb op 8 (λ j g. rw j (λ c. let z : ◌≡◌ {A = ℕ} 0 1 = cc in absurd (omega arith)))
    (λ j g. by_eqb op 9 (λ k l. rw k (λ c. let z : ◌≡◌ {A = ℕ} 0 1 = cc in absurd (omega arith)))
    (λ k l. rw (f, g, l, le-ltb op 3 (omega arith), ne_eqb op 3 (λ x. omega arith)) (λ c. (refl, refl))))))

module _ (m : Model) where
  pub answers-starts :
      (op : ℕ) (o x : List ℕ) →
      verdict m (command op o x) ≡ accepted →
      values_in (reply m (command op o x)).answer
      ≡ flag (either (single differences op) (runs differences op)) ∷ flag (either (single temperatures op) (runs temperatures op)) ∷ []
  unfolding reply reply_by accepted_answer values_in
  answers-starts op o x v =
      rw (v, ← flight-starts op, ← temperature-starts op)
      (by-test (is_command op) (λ c. rw c)
      (λ c.
      let (a, b) = no-command op c in
      rw (c, a, b) (by-test (is_write op) (λ w. rw w) (λ w. rw w (by-test (is_flash op) (λ u. rw u) (λ u. rw u))))))

  -- the directions of TOF_Up (00h), TOF_Down (01h) and TOF_Diff (02h), and of an event's difference
  pub start-directions :
      (map (λ (op : ℕ). (run_model m op).flight.up) (0 ∷ 1 ∷ 2 ∷ 7 ∷ 8 ∷ []) ≡ true ∷ false ∷ true ∷ true ∷ true ∷ []) ×
      (map (λ (op : ℕ). (run_model m op).flight.down) (0 ∷ 1 ∷ 2 ∷ 7 ∷ 8 ∷ []) ≡ false ∷ true ∷ true ∷ true ∷ true ∷ [])
  unfolding run_model is_event single_started flight_started started_event event_flight starts_flight flight_event
  start-directions = (refl, refl)

  pub start-keeps : (op : ℕ) → op ≤ 3 → words_at (run_model m op) 0xB0 80 ≡ words_at m 0xB0 80
  unfolding run_model is_event single_started flight_started start_single register_word calendar_word flight_word temperature_word
  start-keeps zero h = refl
  start-keeps (suc zero) h = refl
  start-keeps (suc (suc zero)) h = refl
  start-keeps (suc (suc (suc zero))) h = refl
  start-keeps (suc (suc (suc (suc op)))) h = absurd (omega arith)

  pub flight-alone : (op : ℕ) → op ≤ 2 → (run_model m op).temperature ≡ m.temperature
  unfolding run_model is_event single_started
  flight-alone zero h = refl
  flight-alone (suc zero) h = refl
  flight-alone (suc (suc zero)) h = refl
  flight-alone (suc (suc (suc op))) h = absurd (omega arith)

  pub clock-kept : (op : ℕ) → ¬ (op ≡ 4) → (run_model m op).clock ≡ m.clock
  unfolding run_model initialised_model halted_model supplied unsupplied started_event single_started
  clock-kept op n =
      rw (ne_eqb op 4 n)
      (by-test (eqb op 5) (λ e. rw e)
      (λ e. rw e
      (by-test (eqb op 10) (λ f. rw f)
      (λ f. rw f
      (by-test (eqb op 12) (λ g. rw g)
      (λ g. rw g
      (by-test (eqb op 13) (λ h. rw h)
      (λ h. rw h (by-test (is_event op) (λ i. rw i) (λ i. rw i (by-test (eqb op 3) (λ j. rw j) (λ j. rw j))))))))))))

  -- "Acceptance zeroes cycle counts (E4h, EFh) and averages (E5h, E6h; F0h to F7h) of the kinds run.", and of no other
  pub zeroed :
      (k : Kind) (op : ℕ) →
      runs k op ≡ true →
      words_at (run_model m op) (by_kind k 0xE4 0xEF) (by_kind k 3 9) ≡ repeated (by_kind k 3 9) 0
  unfolding runs
  zeroed differences op =
      by_eqb op 7 (λ h e. rw h (λ r. (zeroed-differences m).0))
      (λ n e. rw e (λ r. let z : op ≡ 8 = eqb-true op 8 r in rw z (zeroed-differences m).1))
  zeroed temperatures op =
      by_eqb op 7 (λ h e. rw h (λ r. (zeroed-temperatures m).0))
      (λ n e. rw e (λ r. let z : op ≡ 9 = eqb-true op 9 r in rw z (zeroed-temperatures m).2))

  pub not-run :
      (k : Kind) (op : ℕ) →
      7 ≤ op →
      op ≤ 9 →
      runs k op ≡ false →
      words_at (run_model m op) (by_kind k 0xE4 0xEF) (by_kind k 3 9) ≡ words_at m (by_kind k 0xE4 0xEF) (by_kind k 3 9)
  unfolding runs
  not-run differences op a b =
      by_eqb op 7 (λ h e. rw h (λ r. let z : ◌≡◌ {A = ℕ} 0 1 = cc in absurd (omega arith)))
      (λ n e. by_eqb op 8 (λ h f. rw h (λ r. let z : ◌≡◌ {A = ℕ} 0 1 = cc in absurd (omega arith)))
      (λ o f r. let z : op ≡ 9 = omega arith in rw z (zeroed-differences m).2))
  not-run temperatures op a b =
      by_eqb op 7 (λ h e. rw h (λ r. let z : ◌≡◌ {A = ℕ} 0 1 = cc in absurd (omega arith)))
      (λ n e. by_eqb op 9 (λ h f. rw h (λ r. let z : ◌≡◌ {A = ℕ} 0 1 = cc in absurd (omega arith)))
      (λ o f r. let z : op ≡ 8 = omega arith in rw z (zeroed-temperatures m).1))

  -- "A kind is awaited from its start until .. HALT or Reset."
  pub reset-drops : (k : Kind) (c : Call) → is_delivery k c ≡ true → not_awaited (run_model m 4) c ≡ true
  unfolding is_delivery not_awaited is_awaited run_model reset_model fresh_with no_flight no_temperature no_schedule
  reset-drops k (transaction f o x) d = d
  reset-drops k tick d = d
  reset-drops k (flight u v) d = refl
  reset-drops k (temperature w) d = refl
  reset-drops k (stretch n) d = d
