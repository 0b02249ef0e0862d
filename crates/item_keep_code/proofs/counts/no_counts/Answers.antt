-- `item_keep_code::counts::no_counts` meets its contract.
-- Assumes nothing.
use mathlib.Core.Path.{refl}
use Rattle.item_answer.specs.OwnView.{tally_of}
use Rattle.item_keep_code.proofs.counts.no_counts.Goals as goal

pub returns : goal.returns
unfolding tally_of
returns c = refl
