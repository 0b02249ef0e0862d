-- `item_replay_code::count::add` meets its contract.
-- Assumes nothing.
use native.Mathlib.Omega.{arith}
use mathlib.Core.Path.{refl}
use Rattle.item_answer.specs.OwnView.{tally_of}
use Rattle.item_replay.specs.Replay.{plus}
use Rattle.item_replay_code.proofs.StateLaws.{few-add}
use Rattle.item_replay_code.proofs.count.add.Goals as goal

pub overflow_add-result-6 : goal.overflow_add-result-6
overflow_add-result-6 c = let pre = c.requires in record { fits = omega (arith, pre.0.differ, pre.1.differ) }

pub returns : goal.returns
unfolding tally_of plus
returns c = record { result_value = refl; few = λ n f. few-add _ _ n f c.requires.1 }
