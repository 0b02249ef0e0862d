-- The questions about the run, in plain numbers.
use mathlib.Core.Bool.{true, false}
use mathlib.Core.Path.{◌≡◌, refl}
use Rattle.unit.specs.Choice.{pick}
use Rattle.device.specs.declared.Schedule.{Schedule}
use Rattle.device.specs.declared.Model.{Model}
use Rattle.device.specs.Event.{ticks, schedule_by, no_schedule, start_single, start_event, settle, tick_schedule, in_event, starts_left, begins, begins_group, fails}
use Rattle.device.specs.Event.{left_after, wait_after, started_after, settled_after, good_after}
use Rattle.device.specs.Model.{fresh_model, fresh_with, is_sound}
use Rattle.device.specs.Bus.{initialised_model}
use Rattle.device.proofs.Sound.{fresh-sound}
use Rattle.run_state.specs.State.{initialised_told, left_told}
use Rattle.run_state.specs.Event.{place_by, next_start, place_of, place_told}
use Rattle.std.specs.Prelude.{Some, None, Ok}

initialised-is : (m : Model) → is_sound m ≡ true → initialised_told m ≡ pick m.initialised (Ok 1) (Ok 0)
unfolding initialised_told
initialised-is m s = rw s refl

-- "Fresh: not initialised"
pub fresh-not-initialised : initialised_told fresh_model ≡ Ok 0
unfolding fresh_model fresh_with
fresh-not-initialised = initialised-is fresh_model fresh-sound

-- "05h Initialize makes the model initialised"
pub initialised-after : (m : Model) → is_sound m ≡ true → initialised_told (initialised_model m) ≡ Ok 1
unfolding initialised_model is_sound
initialised-after m s = initialised-is (initialised_model m) s

left_is : (m : Model) (k : Schedule) → is_sound m ≡ true → left_told m k ≡ Ok k.left
unfolding left_told
left_is m k s = rw s refl

pub left-of-none : left_told fresh_model no_schedule ≡ Ok (ticks 0)
unfolding no_schedule
left-of-none = left_is fresh_model no_schedule fresh-sound

-- "undelivered 8,192 ticks after its start", and one tick later
pub left-at-start : left_told fresh_model (start_single no_schedule) ≡ Ok (ticks 8192)
unfolding start_single
left-at-start = left_is fresh_model (start_single no_schedule) fresh-sound

pub left-later : left_told fresh_model (tick_schedule (start_single no_schedule)) ≡ Ok (ticks 8191)
unfolding no_schedule start_single tick_schedule begins begins_group fails starts_left left_after wait_after started_after settled_after good_after
left-later = left_is fresh_model (tick_schedule (start_single no_schedule)) fresh-sound

place_is : (m : Model) (k : Schedule) → is_sound m ≡ true → place_told m k ≡ pick (in_event k) (Ok (Some (place_of k))) (Ok None)
unfolding place_told
place_is m k s = rw s refl

-- an event of two, half a second apart
pub two : Schedule
two = start_event (ticks 16384) 2 false

pub place-at-start : place_told fresh_model two ≡ Ok (Some (place_by 2 1 0 0 (ticks 16384) false))
unfolding two start_event in_event place_of next_start starts_left
place-at-start = place_is fresh_model two fresh-sound

-- a tick after a failed delivery
pub place-settled : place_told fresh_model (tick_schedule (settle two false)) ≡ Ok (Some (place_by 2 1 1 0 (ticks 16383) false))
unfolding two start_event settle tick_schedule in_event place_of next_start begins begins_group fails starts_left left_after wait_after started_after settled_after good_after
place-settled = place_is fresh_model (tick_schedule (settle two false)) fresh-sound

-- the tick of the last start: no other is to come
pub last : Schedule
last = tick_schedule (schedule_by (ticks 0) (ticks 1) (ticks 16384) 2 1 1 false 1)

pub place-last : place_told fresh_model last ≡ Ok (Some (place_by 2 2 1 1 (ticks 0) false))
unfolding last tick_schedule in_event place_of next_start begins begins_group fails starts_left left_after wait_after started_after settled_after good_after
place-last = place_is fresh_model last fresh-sound

-- "The event ends when all are settled."
pub place-ended : place_told fresh_model (settle last false) ≡ Ok None
unfolding last settle tick_schedule in_event begins begins_group fails starts_left left_after wait_after started_after settled_after good_after
place-ended = place_is fresh_model (settle last false) fresh-sound

-- a continuous event of groups of one: it goes on once that is settled, and its next start is the next group's
pub place-group :
    place_told fresh_model (settle (start_event (ticks 16384) 1 true) true)
    ≡ Ok (Some (place_by 1 1 1 1 (ticks 16384) true))
unfolding start_event settle in_event place_of next_start starts_left
place-group = place_is fresh_model (settle (start_event (ticks 16384) 1 true) true) fresh-sound
