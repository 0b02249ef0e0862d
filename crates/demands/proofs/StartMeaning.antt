-- What starts a measurement and what starts none, and what each command keeps.
use Prim.Native.Nat.{ℕ, zero, suc, ◌≤◌}
use native.Mathlib.Omega.{arith}
use mathlib.Core.Bool.{true, false}
use mathlib.Core.List.{List, [], ◌∷◌, map}
use mathlib.Core.Logic.{◌⊎◌, ⊎_elim}
use mathlib.Core.Path.{◌≡◌, refl, ◌∙◌}
use borrow.Author.Tests.{le-ltb}
use Rattle.unit.proofs.Cases.{by-test, by-ltb}
use Rattle.device.specs.declared.Schedule.{Schedule}
use Rattle.device.specs.declared.Flight.{Flight}
use Rattle.device.specs.declared.Temperature.{Temperature}
use Rattle.device.specs.declared.Model.{Model}
use Rattle.device.specs.declared.Answer.TheVariants.{Ticked, Stretched}
use Rattle.unit.proofs.Joined.{neither}
use Rattle.device.specs.Event.{ticks, is_awaited, in_event, starts_left, begins, begins_group, fails, halt_schedule}
use Rattle.device.specs.Event.{tick_schedule, left_after, started_after, settled_after, good_after}
use Rattle.device.specs.Model.{is_sound, kind_busy, is_busy}
use Rattle.device.specs.Registers.{calendar_word, flight_word, temperature_word, register_word, upwards}
use Rattle.device.specs.Results.{failed_flight}
use Rattle.device.specs.Tick.{sum_after, sums_after, flight_ticked, flight_after, temperature_after, tick_model, report_of}
use Rattle.device.specs.Stretch.{model_ticked, schedule_ticked, last_tick, stretch_report}
use Rattle.device.specs.Delivery.{good_flight_model, failed_flight_model, good_temperature_model, failed_temperature_model}
use Rattle.device.specs.Bus.{is_event, started_event, initialised_model, halted_model, single_started, supplied, unsupplied, run_model}
use Rattle.device.specs.Call.{Call, transaction, tick, flight, temperature, stretch, not_awaited}
use Rattle.device.specs.Reply.{any_late, port_fault, accepted_model, accepted_answer, values_in}
use Rattle.device.specs.History.{Kind}
use Rattle.demands.specs.EventHistory.{is_delivery}
use Rattle.device.specs.Plain.{words_at}
use Rattle.device.proofs.Sound.{ScheduleBounds, bounds_of}

-- No event runs: all that were planned are started and settled, and none is continuous.
pub record Ended (k : Schedule) : Type 0 where
  pub once : k.continuous ≡ false
  pub started : k.planned ≤ k.started
  pub settled : k.planned ≤ k.settled

all_settled : (k : Schedule) → in_event k ≡ false → (k.continuous ≡ false) × (k.planned ≤ k.settled)
unfolding in_event
all_settled k =
    by-test k.continuous (λ c. rw c (λ e. (cc, absurd (let z : ◌≡◌ {A = ℕ} 0 1 = cc in omega arith))))
    (λ c. rw c
    (by-ltb k.settled k.planned (λ l e. rw e (λ f. (refl, absurd (let z : ◌≡◌ {A = ℕ} 0 1 = cc in omega arith))))
    (λ l e. rw e (λ f. (refl, l)))))

ended_of : (k : Schedule) → ScheduleBounds k → in_event k ≡ false → Ended k
ended_of k b e =
    let (c, l) = all_settled k e in record { once = c; started = omega (arith, b.settled); settled = l }

pub ended-none : (k : Schedule) → Ended k → begins k ≡ false
unfolding begins starts_left
ended-none k e = rw (e.once, le-ltb k.started k.planned e.started)

pub ended-group : (k : Schedule) → Ended k → begins_group k ≡ false
unfolding begins_group
ended-group k e = rw (ended-none k e)

pub ended-tick : (k : Schedule) → Ended k → Ended (tick_schedule k)
unfolding tick_schedule started_after settled_after
ended-tick k e =
    rw (ended-none k e, ended-group k e, le-ltb k.settled k.planned e.settled)
    (by-test (fails k)
    (λ f. rw f (record { once = e.once; started = e.started; settled = e.settled }))
    (λ f. rw f (record { once = e.once; started = e.started; settled = e.settled })))

pub ended-ticked : (n : ℕ) (k : Schedule) → Ended k → Ended (schedule_ticked n k)
unfolding schedule_ticked
ended-ticked zero k e = e
ended-ticked (suc n) k e = ended-tick (schedule_ticked n k) (ended-ticked n k e)

-- "The event ends when all are settled.": where no event runs, no tick starts a measurement, however many pass
pub idle-starts-none :
    (k : Schedule) → ScheduleBounds k → in_event k ≡ false → (n : ℕ) → begins (schedule_ticked n k) ≡ false
idle-starts-none k b i n = ended-none (schedule_ticked n k) (ended-ticked n k (ended_of k b i))

-- where the N of an event, not a continuous one, are all settled, no tick starts a measurement, however many pass
pub settled-starts-none :
    (k : Schedule) →
    ScheduleBounds k →
    k.continuous ≡ false →
    k.settled ≡ k.planned →
    (n : ℕ) →
    begins (schedule_ticked n k) ≡ false
settled-starts-none k b c s n =
    ended-none (schedule_ticked n k)
    (ended-ticked n k (record { once = c; started = omega (arith, b.settled); settled = omega arith }))

-- Nothing is awaited either.
pub none_left : (k : Schedule) → Ended k → k.left.0 ≡ 0 → (tick_schedule k).left.0 ≡ 0
unfolding tick_schedule left_after
none_left k e z = rw (ended-none k e, z)

pub none-left-ticked : (n : ℕ) (k : Schedule) → Ended k → k.left.0 ≡ 0 → (schedule_ticked n k).left.0 ≡ 0
unfolding schedule_ticked
none-left-ticked zero k e z = z
none-left-ticked (suc n) k e z = none_left (schedule_ticked n k) (ended-ticked n k e) (none-left-ticked n k e z)

halted-ended : (k : Schedule) → Ended (halt_schedule k)
unfolding halt_schedule
halted-ended k = record { once = refl; started = omega arith; settled = omega arith }

halted-left : (k : Schedule) → (halt_schedule k).left.0 ≡ 0
unfolding halt_schedule
halted-left k = refl

pub not-failing : (k : Schedule) → k.left.0 ≡ 0 → fails k ≡ false
unfolding fails
not-failing k z = rw z

pub not-awaiting : (k : Schedule) → k.left.0 ≡ 0 → is_awaited k ≡ false
unfolding is_awaited
not-awaiting k z = rw z

-- A tick starts none and fails none, and none is awaited.
pub record Silent (k : Schedule) : Type 0 where
  pub starts : begins k ≡ false
  pub left : k.left.0 ≡ 0
  pub expires : fails k ≡ false

-- "HALT drops awaited measurements, ends the event": so it is, and stays so for n ticks
pub halted-silent : (k : Schedule) (n : ℕ) → Silent (schedule_ticked n (halt_schedule k))
halted-silent k n =
    let l = none-left-ticked n (halt_schedule k) (halted-ended k) (halted-left k) in
    record {
      starts = ended-none (schedule_ticked n (halt_schedule k)) (ended-ticked n (halt_schedule k) (halted-ended k));
      left = l;
      expires = not-failing (schedule_ticked n (halt_schedule k)) l;
    }

never-starts : (k : Schedule) (n : ℕ) → last_tick begins (halt_schedule k) n ≡ 0
unfolding last_tick
never-starts k zero = refl
never-starts k (suc n) = rw ((halted-silent k n).starts, never-starts k n)

never-fails : (k : Schedule) (n : ℕ) → last_tick fails (halt_schedule k) n ≡ 0
unfolding last_tick
never-fails k zero = refl
never-fails k (suc n) = rw ((halted-silent k n).expires, never-fails k n)

pub flight-schedule : (n : ℕ) (m : Model) → (model_ticked n m).flight.schedule ≡ schedule_ticked n m.flight.schedule
unfolding model_ticked schedule_ticked tick_model
flight-schedule zero m = refl
flight-schedule (suc n) m = flight-after (model_ticked n m).flight ∙ rw (flight-schedule n m)
  where
    flight-after : (f : Flight) → (flight_after f).schedule ≡ tick_schedule f.schedule
    flight-after f = unfold flight_after flight_ticked failed_flight in by-test (fails f.schedule) (λ e. rw e) (λ e. rw e)

pub temperature-schedule :
    (n : ℕ) (m : Model) → (model_ticked n m).temperature.schedule ≡ schedule_ticked n m.temperature.schedule
unfolding model_ticked schedule_ticked tick_model
temperature-schedule zero m = refl
temperature-schedule (suc n) m = temperature-after (model_ticked n m).temperature ∙ rw (temperature-schedule n m)
  where
    temperature-after : (t : Temperature) → (temperature_after t).schedule ≡ tick_schedule t.schedule
    temperature-after t = unfold temperature_after in by-test (fails t.schedule) (λ e. rw e) (λ e. rw e)

module _ (m : Model) where
  halted-flight : (run_model m 10).flight.schedule ≡ halt_schedule m.flight.schedule
  unfolding run_model halted_model
  halted-flight = refl

  halted-temperature : (run_model m 10).temperature.schedule ≡ halt_schedule m.temperature.schedule
  unfolding run_model halted_model
  halted-temperature = refl

  pub halt-flight : (n : ℕ) → Silent (model_ticked n (run_model m 10)).flight.schedule
  halt-flight n = rw (flight-schedule n (run_model m 10), halted-flight) (halted-silent m.flight.schedule n)

  pub halt-temperature : (n : ℕ) → Silent (model_ticked n (run_model m 10)).temperature.schedule
  halt-temperature n =
      rw (temperature-schedule n (run_model m 10), halted-temperature) (halted-silent m.temperature.schedule n)

  -- in the answers: after 0Ah no tick reports a start or a failure,
  pub halt-ticks :
      (n : ℕ) →
      accepted_answer (model_ticked n (run_model m 10)) tick
      ≡ Ticked (record { started = false; failed = false }) (record { started = false; failed = false })
  unfolding accepted_answer report_of
  halt-ticks n =
      let f = halt-flight n in
      let t = halt-temperature n in
      rw (f.starts, f.expires, t.starts, t.expires)

  pub halts-told : (n : ℕ) → values_in (accepted_answer (model_ticked n (run_model m 10)) tick) ≡ 0 ∷ 0 ∷ 0 ∷ 0 ∷ []
  unfolding values_in
  halts-told n = rw (halt-ticks n)

  -- and a delivery of either kind is number 10
  pub halts-drop : (k : Kind) (n : ℕ) (c : Call) → is_delivery k c ≡ true → not_awaited (model_ticked n (run_model m 10)) c ≡ true
  unfolding is_delivery not_awaited
  halts-drop k n (transaction f o x) e = e
  halts-drop k n tick e = e
  halts-drop k n (flight u d) e = rw (not-awaiting (model_ticked n (run_model m 10)).flight.schedule (halt-flight n).left)
  halts-drop k n (temperature w) e =
      rw (not-awaiting (model_ticked n (run_model m 10)).temperature.schedule (halt-temperature n).left)
  halts-drop k n (stretch j) e = e

  -- nor does a stretch after 0Ah name a start or a failure
  pub halt-stretch :
      (n : ℕ) →
      accepted_answer (run_model m 10) (stretch n)
      ≡ Stretched (record { started = ticks 0; failed = ticks 0 }) (record { started = ticks 0; failed = ticks 0 })
  unfolding accepted_answer stretch_report
  halt-stretch n =
      rw (
        halted-flight,
        halted-temperature,
        never-starts m.flight.schedule n,
        never-fails m.flight.schedule n,
        never-starts m.temperature.schedule n,
        never-fails m.temperature.schedule n,
      )

-- A single measurement: "A good measurement of an event adds one to its count, a single one none". Count and averages are what
-- E4h to E6h read, and EFh to F7h.
pub flight-counts :
    (m n : Model) →
    n.flight.sum ≡ m.flight.sum →
    n.flight.schedule.good ≡ m.flight.schedule.good →
    map (register_word n) (upwards 0xE4 3) ≡ map (register_word m) (upwards 0xE4 3)
unfolding register_word flight_word
flight-counts m n s g = rw (s, g)

pub temperature-counts :
    (m n : Model) →
    n.temperature.sums ≡ m.temperature.sums →
    n.temperature.schedule.good ≡ m.temperature.schedule.good →
    map (register_word n) (upwards 0xEF 9) ≡ map (register_word m) (upwards 0xEF 9)
unfolding register_word temperature_word
temperature-counts m n s g = rw (s, g)

-- ticks, in which it may fail
pub ended-sum :
    (n : ℕ) (m : Model) →
    Ended m.flight.schedule →
    ((model_ticked n m).flight.sum ≡ m.flight.sum) × ((model_ticked n m).flight.schedule.good ≡ m.flight.schedule.good)
unfolding model_ticked tick_model
ended-sum zero m e = (refl, refl)
ended-sum (suc n) m e =
    let (s, g) = ended-sum n m e in
    let (t, h) = after (model_ticked n m).flight (rw (flight-schedule n m) (ended-ticked n m.flight.schedule e)) in
    (t ∙ s, h ∙ g)
  where
    after : (f : Flight) → Ended f.schedule → ((flight_after f).sum ≡ f.sum) × ((flight_after f).schedule.good ≡ f.schedule.good)
    after f e =
        unfold flight_after flight_ticked failed_flight sum_after tick_schedule good_after in
        rw (ended-group f.schedule e) (by-test (fails f.schedule) (λ x. rw x (refl, refl)) (λ x. rw x (refl, refl)))

pub ended-sums :
    (n : ℕ) (m : Model) →
    Ended m.temperature.schedule →
    ((model_ticked n m).temperature.sums ≡ m.temperature.sums) ×
    ((model_ticked n m).temperature.schedule.good ≡ m.temperature.schedule.good)
unfolding model_ticked tick_model
ended-sums zero m e = (refl, refl)
ended-sums (suc n) m e =
    let (s, g) = ended-sums n m e in
    let (t, h) =
    after (model_ticked n m).temperature (rw (temperature-schedule n m) (ended-ticked n m.temperature.schedule e))
    in
    (t ∙ s, h ∙ g)
  where
    after :
        (t : Temperature) →
        Ended t.schedule →
        ((temperature_after t).sums ≡ t.sums) × ((temperature_after t).schedule.good ≡ t.schedule.good)
    after t e =
        unfold temperature_after sums_after tick_schedule good_after in
        rw (ended-group t.schedule e) (by-test (fails t.schedule) (λ x. rw x (refl, refl)) (λ x. rw x (refl, refl)))

-- A delivery of one kind leaves the other's results: E7h to F7h, and C5h to E6h.
flight-reads :
    (m n : Model) →
    n.flight ≡ m.flight →
    map (register_word n) (upwards 0xC5 34) ≡ map (register_word m) (upwards 0xC5 34)
unfolding register_word
flight-reads m n e = rw e

temperature-reads :
    (m n : Model) →
    n.temperature ≡ m.temperature →
    map (register_word n) (upwards 0xE7 17) ≡ map (register_word m) (upwards 0xE7 17)
unfolding register_word
temperature-reads m n e = rw e

pub flight-leaves-ports :
    (m : Model) (u d : List ℕ) →
    map (register_word (accepted_model m (flight u d))) (upwards 0xE7 17) ≡ map (register_word m) (upwards 0xE7 17)
flight-leaves-ports m u d = temperature-reads m (accepted_model m (flight u d)) kept
  where
    kept : (accepted_model m (flight u d)).temperature ≡ m.temperature
    kept = unfold accepted_model failed_flight_model good_flight_model in by-test (any_late m u d) (λ e. rw e) (λ e. rw e)

pub temperature-leaves-hits :
    (m : Model) (w : List ℕ) →
    map (register_word (accepted_model m (temperature w))) (upwards 0xC5 34) ≡ map (register_word m) (upwards 0xC5 34)
temperature-leaves-hits m w = flight-reads m (accepted_model m (temperature w)) kept
  where
    kept : (accepted_model m (temperature w)).flight ≡ m.flight
    kept = unfold accepted_model failed_temperature_model good_temperature_model in by-test (port_fault m w) (λ e. rw e) (λ e. rw e)

-- Models with the same calendar, configuration and results read the same from B0h to F7h.
pub record SameResults (m n : Model) : Type 0 where
  pub calendar : calendar_word n ≡ calendar_word m
  pub setup : n.setup ≡ m.setup
  pub flight : flight_word n.flight ≡ flight_word m.flight
  pub temperature : temperature_word n.temperature ≡ temperature_word m.temperature

same_reads : (m n : Model) → SameResults m n → words_at n 0xB0 72 ≡ words_at m 0xB0 72
unfolding register_word
same_reads m n s = rw (s.calendar, s.setup, s.flight, s.temperature)

module _ (m : Model) where
  -- "05h Initialize", "0Ah HALT", "LDO_ON (0Ch), LDO_OFF (0Dh)" (Note 8) keep the calendar, the configuration and every result:
  -- B0h to F7h read the same
  same-results : (op : ℕ) → (op ≡ 0x05) ⊎ (op ≡ 0x0A) ⊎ (op ≡ 0x0C) ⊎ (op ≡ 0x0D) → SameResults m (run_model m op)
  unfolding run_model initialised_model halted_model halt_schedule supplied unsupplied calendar_word flight_word temperature_word
  same-results op =
      ⊎_elim (λ e. rw e (record { calendar = refl; setup = refl; flight = refl; temperature = refl }))
      (⊎_elim (λ e. rw e (record { calendar = refl; setup = refl; flight = refl; temperature = refl }))
      (⊎_elim (λ e. rw e (record { calendar = refl; setup = refl; flight = refl; temperature = refl }))
      (λ e. rw e (record { calendar = refl; setup = refl; flight = refl; temperature = refl }))))

  pub others_keep :
      (op : ℕ) →
      (op ≡ 0x05) ⊎ (op ≡ 0x0A) ⊎ (op ≡ 0x0C) ⊎ (op ≡ 0x0D) →
      words_at (run_model m op) 0xB0 72 ≡ words_at m 0xB0 72
  others_keep op h = same_reads m (run_model m op) (same-results op h)

  -- and the set-up
  pub commands-keep-setup :
      map (λ (op : ℕ). (run_model m op).setup) (0 ∷ 1 ∷ 2 ∷ 3 ∷ 5 ∷ 7 ∷ 8 ∷ 9 ∷ 10 ∷ 12 ∷ 13 ∷ [])
      ≡ map (λ (op : ℕ). m.setup) (0 ∷ 1 ∷ 2 ∷ 3 ∷ 5 ∷ 7 ∷ 8 ∷ 9 ∷ 10 ∷ 12 ∷ 13 ∷ [])
  unfolding run_model is_event started_event single_started initialised_model halted_model supplied unsupplied
  commands-keep-setup = refl

-- where a kind is neither awaited nor in an event
pub idle-left : (k : Schedule) → is_awaited k ≡ false → k.left.0 ≡ 0
unfolding is_awaited
idle-left k =
    by-ltb 0 k.left.0 (λ l e. rw e (λ f. let z : ◌≡◌ {A = ℕ} 0 1 = cc in absurd (omega arith)))
    (λ l e. rw e (λ f. omega arith))

pub idle_ended : (k : Schedule) → ScheduleBounds k → kind_busy k ≡ false → Ended k
unfolding kind_busy
idle_ended k b i = ended_of k b (neither (is_awaited k) (in_event k) i).1

pub idle-rests : (k : Schedule) → kind_busy k ≡ false → k.left.0 ≡ 0
unfolding kind_busy
idle-rests k i = idle-left k (neither (is_awaited k) (in_event k) i).0

module _ (m : Model) (s : is_sound m ≡ true) (i : is_busy m ≡ false) where
  pub ended-flight : Ended m.flight.schedule
  unfolding is_busy
  ended-flight =
      idle_ended m.flight.schedule (bounds_of m s).flight.schedule
      (neither (kind_busy m.flight.schedule) (kind_busy m.temperature.schedule) i).0

  pub ended-temperature : Ended m.temperature.schedule
  unfolding is_busy
  ended-temperature =
      idle_ended m.temperature.schedule (bounds_of m s).temperature.schedule
      (neither (kind_busy m.flight.schedule) (kind_busy m.temperature.schedule) i).1

  -- Where nothing is awaited and no event runs, no tick reports a start or a failure.
  idle-silent : (k : Schedule) → Ended k → kind_busy k ≡ false → (n : ℕ) → Silent (schedule_ticked n k)
  unfolding kind_busy
  idle-silent k e b n =
      let l = none-left-ticked n k e (idle-left k (neither (is_awaited k) (in_event k) b).0) in
      record {
        starts = ended-none (schedule_ticked n k) (ended-ticked n k e);
        left = l;
        expires = not-failing (schedule_ticked n k) l;
      }

  pub idle-ticks :
      (n : ℕ) →
      accepted_answer (model_ticked n m) tick
      ≡ Ticked (record { started = false; failed = false }) (record { started = false; failed = false })
  unfolding accepted_answer report_of is_busy
  idle-ticks n =
      let (x, y) = neither (kind_busy m.flight.schedule) (kind_busy m.temperature.schedule) i in
      let f = idle-silent m.flight.schedule ended-flight x n in
      let t = idle-silent m.temperature.schedule ended-temperature y n in
      rw (flight-schedule n m, temperature-schedule n m, f.starts, f.expires, t.starts, t.expires)
