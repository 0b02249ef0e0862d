-- What stands in the way of a command, in plain arithmetic: a busy model, no Initialize before it, a set-up that is not made
-- (numbers 6, 8 and 9).
use Prim.Native.Nat.{ℕ, ◌≤◌, ◌<◌}
use native.Mathlib.Omega.{arith}
use mathlib.Core.Bool.{Bool, true, false}
use mathlib.Core.List.{List, [], ◌∷◌, ◌++◌, map}
use mathlib.Core.Logic.{◌↔◌, ◌⊎◌, inl, inr, ⊎_elim}
use mathlib.Core.Path.{◌≡◌, refl}
use borrow.Author.Tests.{le-leb, lt-leb}
use Rattle.unit.specs.Choice.{either}
use Rattle.unit.proofs.Cases.{by-test, by-ltb, by_eqb, holds, fails}
use Rattle.setup.specs.Setup.{flight_unset, temperature_unset, clock_stands}
use Rattle.device.specs.declared.Schedule.{Schedule}
use Rattle.device.specs.declared.Model.{Model}
use Rattle.device.specs.Event.{is_awaited, in_event}
use Rattle.device.specs.Model.{kind_busy, is_busy}
use Rattle.device.specs.Registers.{upwards}
use Rattle.device.specs.Bus.{must_be_idle, starts_flight, starts_temperature, is_event, command_busy, before_initialize}
use Rattle.device.specs.Bus.{flight_side_unset, temperature_side_unset, event_side_unset, command_unset}
use Rattle.device.specs.Plain.{Running}

-- "while a measurement is awaited or an event runs"
pub kind-busy-means : (k : Schedule) → (kind_busy k ≡ true) ↔ Running k
unfolding kind_busy is_awaited in_event
kind-busy-means k =
    by-ltb 0 k.left.0
    (λ h e. rw e (holds (inl h)))
    (λ h e. by-test k.continuous
    (λ c. rw (e, c) (holds (inr (inl refl))))
    (λ c. by-ltb k.settled k.planned
    (λ i f. rw (e, c, f) (holds (inr (inr i))))
    (λ i f. rw (e, c, f) (fails false
    (⊎_elim (λ x. omega arith) (⊎_elim (λ x. let z : ◌≡◌ {A = ℕ} 0 1 = cc in omega arith) (λ x. omega arith)))))))

pub busy-means : (m : Model) → (is_busy m ≡ true) ↔ (Running m.flight.schedule ⊎ Running m.temperature.schedule)
unfolding is_busy
busy-means m =
    let f = kind-busy-means m.flight.schedule in
    let t = kind-busy-means m.temperature.schedule in
    by-test (kind_busy m.flight.schedule)
    (λ e. rw e (holds (inl (f.0 e))))
    (λ e. rw e (
      λ g. inr (t.0 g),
      ⊎_elim (λ x. let y = f.1 x in let z : ◌≡◌ {A = ℕ} 0 1 = cc in absurd (omega arith)) (λ x. t.1 x),
    ))

-- "a command but HALT and Reset"
pub idle-means : (op : ℕ) → (must_be_idle op ≡ false) ↔ ((op ≡ 4) ⊎ (op ≡ 10))
unfolding must_be_idle
idle-means op =
    by_eqb op 4
    (λ h e. rw e (holds (inl h)))
    (λ n e. by_eqb op 10
    (λ h f. rw (e, f) (holds (inr h)))
    (λ o f. rw (e, f) (fails true (⊎_elim n o))))

-- "commands 00h to 05h and 07h to 0Ah", and 0Ch and 0Dh (Note 8)
abbrev commands : List ℕ
commands = upwards 0x00 6 ++ upwards 0x07 4 ++ upwards 0x0C 2

-- "00h to 03h, 07h to 09h before Initialize"
pub before-initialize :
    (m : Model) →
    m.initialised ≡ false →
    map (before_initialize m) commands
    ≡ true ∷ true ∷ true ∷ true ∷ false ∷ false ∷ true ∷ true ∷ true ∷ false ∷ false ∷ false ∷ []
unfolding before_initialize starts_flight starts_temperature
before-initialize m e = rw e

pub after-initialize : (m : Model) (op : ℕ) → m.initialised ≡ true → before_initialize m op ≡ false
unfolding before_initialize
after-initialize m op e = rw e

-- "TOF_Up (00h), TOF_Down (01h), TOF_Diff (02h) start a flight measurement, Temperature (03h) a temperature one"; "07h
-- runs both kinds, 08h differences, 09h temperatures."
pub starts-flight :
    map starts_flight commands
    ≡ true ∷ true ∷ true ∷ false ∷ false ∷ false ∷ true ∷ true ∷ false ∷ false ∷ false ∷ false ∷ []
unfolding starts_flight
starts-flight = refl

pub starts-temperature :
    map starts_temperature commands
    ≡ false ∷ false ∷ false ∷ true ∷ false ∷ false ∷ true ∷ false ∷ true ∷ false ∷ false ∷ false ∷ []
unfolding starts_temperature
starts-temperature = refl

pub event-means : (op : ℕ) → (is_event op ≡ true) ↔ ((7 ≤ op) × (op ≤ 9))
unfolding is_event
event-means op =
    by-ltb op 7
    (λ h e. rw (lt-leb 7 op h) (fails false (λ x. omega arith)))
    (λ h e. by-ltb 9 op
    (λ i f. rw (le-leb 7 op h, lt-leb op 9 i) (fails false (λ x. omega arith)))
    (λ i f. rw (le-leb 7 op h, le-leb op 9 i) (holds (omega arith))))

-- "busy: a write, or a command but HALT and Reset, while a measurement is awaited or an event runs"
pub command-busy-means :
    (m : Model) (op : ℕ) → (command_busy m op ≡ true) ↔ ((is_busy m ≡ true) × (¬ (op ≡ 4)) × (¬ (op ≡ 10)))
unfolding command_busy must_be_idle
command-busy-means m op =
    by_eqb op 4
    (λ h e. rw e (fails false (λ x. x.1 h)))
    (λ h e. by_eqb op 10
    (λ i f. rw (e, f) (fails false (λ x. x.2 i)))
    (λ i f. rw (e, f) (λ b. (b, h, i), λ x. x.0)))

-- "Number 9: for flight, PL .. or DPL .. zero; for temperature, TP .. not 11b." "Number 9 also: .. EOSC is 1; only the kinds run
-- are judged for PL, DPL and TP.": command by command. "Number 9 no longer occurs for ET_CONT." (Note 5)
pub unset-means :
    (m : Model) (f t e : Bool) →
    flight_unset m.setup ≡ f →
    temperature_unset m.setup ≡ t →
    clock_stands m.setup ≡ e →
    map (command_unset m) commands
    ≡ f ∷ f ∷ f ∷ t ∷ false ∷ false ∷ either e (either f t) ∷ either e f ∷ either e t ∷ false ∷ false ∷ false ∷ []
unfolding command_unset event_side_unset flight_side_unset temperature_side_unset starts_flight starts_temperature is_event
unset-means m f t e x y z = rw (x, y, z) (computed f t e)
  where
    computed :
        (f t e : Bool) →
        either f false ∷
        either f false ∷
        either f false ∷
        t ∷
        false ∷
        false ∷
        either e (either f t) ∷
        either e (either f false) ∷
        either e t ∷
        false ∷
        false ∷
        false ∷
        []
        ≡ f ∷ f ∷ f ∷ t ∷ false ∷ false ∷ either e (either f t) ∷ either e f ∷ either e t ∷ false ∷ false ∷ false ∷ []
    computed true t true = refl
    computed true t false = refl
    computed false t true = refl
    computed false t false = refl
