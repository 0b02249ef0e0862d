-- The place of an event: a question of ours.
use Rattle.std.specs.Prelude.{ℕ, Bool, List, [], ◌∷◌}
use mir.Val.{bool_byte}
use Rattle.unit.specs.Choice.{pick}
use Rattle.unit.specs.declared.Ticks.{Ticks}
use Rattle.device.specs.declared.Schedule.{Schedule}
use Rattle.device.specs.declared.Model.{Model}
use Rattle.device.specs.Event.{ticks, in_event, starts_left}
use Rattle.device.specs.Model.{is_sound}
use Rattle.run_state.specs.declared.Place.{Place}
use Rattle.std.specs.Prelude.{Option, Some, None, Result, Ok, Err}
use Rattle.refusal.specs.declared.Refusal.{Refusal}
use Rattle.refusal.specs.Number.{values_told}

-- A place by its parts: planned, started, settled, good, next, continuous.
abbrev pub place_by : ℕ → ℕ → ℕ → ℕ → Ticks → Bool → Place
place_by planned started settled good next continuous =
    record {
      planned = planned;
      started = started;
      settled = settled;
      good = good;
      next = next;
      continuous = continuous;
    }

-- "Starts .. at j × P": in how many ticks the next measurement of the event starts; 0 where all are started.
unfoldable pub next_start : Schedule → Ticks
next_start k = pick (starts_left k) k.wait (ticks 0)

unfoldable pub place_of : Schedule → Place
place_of k =
    place_by k.planned k.started k.settled k.good (next_start k) k.continuous

-- The place of the event that runs of a kind. "The event ends when all are settled.", a continuous one "only by HALT or Reset"
-- (Note 5): then there is none.
unfoldable pub place_told : Model → Schedule → Result (Option Place) Refusal
place_told m k = pick (is_sound m) (pick (in_event k) (Ok (Some (place_of k))) (Ok None)) (Err Refusal.NotSound)

-- What the answer says where it is no refusal: whether an event runs, and then how many measurements it makes, how many of them
-- are started, settled and good, the ticks until the next start, and whether it is a continuous one. Yes is 1, no is 0.
unfoldable pub event_values : Option Place → List ℕ
event_values None = 0 ∷ []
event_values (Some p) =
    1 ∷ p.planned ∷ p.started ∷ p.settled ∷ p.good ∷ p.next.0 ∷ bool_byte p.continuous ∷ []

abbrev pub values_placed : Result (Option Place) Refusal → List ℕ
values_placed = values_told event_values
