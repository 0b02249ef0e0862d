-- What is awaited after a start, and that HALT leaves nothing awaited and nothing running.
use Prim.Native.Nat.{ℕ, ◌-◌}
use native.Mathlib.Omega.{arith}
use mathlib.Core.Bool.{Bool, true, false}
use mathlib.Core.List.{[], ◌∷◌, map}
use mathlib.Core.Path.{◌≡◌, refl}
use borrow.Author.Tests.{le-ltb}
use Rattle.unit.specs.declared.Ticks.{Ticks}
use Rattle.device.specs.declared.Schedule.{Schedule}
use Rattle.device.specs.declared.Model.{Model}
use Rattle.device.specs.Event.{is_awaited, in_event, start_single, start_event, halt_schedule}
use Rattle.device.specs.Model.{kind_busy, is_busy}
use Rattle.device.specs.Bus.{starts_flight, starts_temperature, is_event, flight_started, flight_event, temperature_event, event_flight, event_temperature, started_event, single_started}
use Rattle.device.specs.Bus.{halted_model, run_model}
use Rattle.device.specs.Call.{flight, temperature}

-- "A kind is awaited from its start"
pub single-awaited : (k : Schedule) → is_awaited (start_single k) ≡ true
unfolding is_awaited start_single
single-awaited k = refl

pub start-awaited : (p : Ticks) (n : ℕ) (c : Bool) → is_awaited (start_event p n c) ≡ true
unfolding is_awaited start_event
start-awaited p n c = refl

-- and each command that starts one leaves its kind awaited: 00h to 02h, 07h and 08h flight, 03h, 07h and 09h temperature
pub commands-awaited :
    (m : Model) →
    (map (λ (op : ℕ). is_awaited (run_model m op).flight.schedule) (0 ∷ 1 ∷ 2 ∷ 7 ∷ 8 ∷ []) ≡ true ∷ true ∷ true ∷ true ∷ true ∷ []) ×
    (map (λ (op : ℕ). is_awaited (run_model m op).temperature.schedule) (3 ∷ 7 ∷ 9 ∷ []) ≡ true ∷ true ∷ true ∷ [])
unfolding run_model single_started flight_started started_event event_flight event_temperature flight_event temperature_event starts_flight starts_temperature is_event is_awaited start_single start_event
commands-awaited m = (refl, refl)

-- "HALT drops awaited measurements, ends the event"
pub halted-idle : (k : Schedule) → kind_busy (halt_schedule k) ≡ false
unfolding kind_busy is_awaited in_event halt_schedule
halted-idle k = rw (le-ltb (halt_schedule k).settled (halt_schedule k).planned (omega arith))

pub halt-idle : (m : Model) → is_busy (halted_model m) ≡ false
unfolding is_busy halted_model
halt-idle m = rw (halted-idle m.flight.schedule) (halted-idle m.temperature.schedule)
