-- `item_replay_code::ticks::differ` meets its contract.
-- Assumes nothing.
use mathlib.Core.Path.{refl}
use Rattle.item_line.specs.OwnRead.{as_expected}
use Rattle.item_answer.specs.Step.{disagrees}
use Rattle.item_ticks_code.specs.OwnHeld.{ticks_differ}
use Rattle.item_replay_code.proofs.ticks.differ.Goals as goal

pub returns-in-None : goal.returns-in-None
unfolding as_expected disagrees
returns-in-None c = rw c.in-None.is (record { tick = refl; at = refl })

pub returns-in-Some : goal.returns-in-Some
unfolding as_expected disagrees ticks_differ
returns-in-Some c =
    let j = rw c.part_of.ensures at c.ticks_differ.ensures in
    rw c.in-Some.is (record { tick = j.tick; at = j.at })
