-- `item_replay_code::sorts::sort_call` meets its contract.
-- Assumes nothing.
use mathlib.Core.Path.{refl}
use Rattle.item_line.specs.OwnRead.{as_call}
use Rattle.item_answer.specs.OwnRoom.{runs_ticks, is_ticks}
use Rattle.item_answer_code.specs.OwnSteps.{is_show}
use Rattle.item_replay_code.specs.OwnLine.{OfSort}
use Rattle.item_replay_code.proofs.sorts.sort_call.Goals as goal

pub returns-in-Bus : goal.returns-in-Bus
unfolding OfSort as_call is_ticks runs_ticks is_show
returns-in-Bus c = λ text numbers. rw c.in-Bus.is (refl, refl)

pub returns-in-Set : goal.returns-in-Set
unfolding OfSort as_call is_ticks runs_ticks is_show
returns-in-Set c = λ text numbers. rw c.in-Set.is (refl, refl)

pub returns-in-Tick : goal.returns-in-Tick
unfolding OfSort as_call is_ticks runs_ticks is_show
returns-in-Tick c = λ text numbers. rw c.in-Tick.is

pub returns-in-At : goal.returns-in-At
unfolding OfSort as_call is_ticks runs_ticks is_show
returns-in-At c = λ text numbers. rw c.in-At.is

pub returns-in-Stretch : goal.returns-in-Stretch
unfolding OfSort as_call is_ticks runs_ticks is_show
returns-in-Stretch c = λ text numbers. rw c.in-Stretch.is (refl, refl)

pub returns-in-Flight : goal.returns-in-Flight
unfolding OfSort as_call is_ticks runs_ticks is_show
returns-in-Flight c = λ text numbers. rw c.in-Flight.is (refl, refl)

pub returns-in-Temperature : goal.returns-in-Temperature
unfolding OfSort as_call is_ticks runs_ticks is_show
returns-in-Temperature c = λ text numbers. rw c.in-Temperature.is (refl, refl)

pub returns-in-Frames : goal.returns-in-Frames
unfolding OfSort as_call is_ticks runs_ticks is_show
returns-in-Frames c = λ text numbers. rw c.in-Frames.is (refl, refl)

pub returns-in-Degrees : goal.returns-in-Degrees
unfolding OfSort as_call is_ticks runs_ticks is_show
returns-in-Degrees c = λ text numbers. rw c.in-Degrees.is (refl, refl)

pub returns-in-Listing : goal.returns-in-Listing
unfolding OfSort as_call is_ticks runs_ticks is_show
returns-in-Listing c = λ text numbers. rw c.in-Listing.is (refl, refl)

pub returns-in-Quietest : goal.returns-in-Quietest
unfolding OfSort as_call is_ticks runs_ticks is_show
returns-in-Quietest c = λ text numbers. rw c.in-Quietest.is (refl, refl)
