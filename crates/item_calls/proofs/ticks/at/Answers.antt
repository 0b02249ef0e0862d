-- `item_calls::ticks::at` meets its contract.
-- Assumes nothing.
use Rattle.item_calls.specs.Lines.{at_line}
use Rattle.item_calls.proofs.ticks.at.Goals as goal

pub returns : goal.returns
unfolding at_line
returns c = rw (← c.begin_at.ensures) c.run.ensures
