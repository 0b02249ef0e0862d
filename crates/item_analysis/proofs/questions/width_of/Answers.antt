-- `item_analysis::questions::width_of` meets its contract.
-- Assumes nothing.
use Rattle.item_analysis.specs.Lines.{width_of}
use Rattle.item_analysis.proofs.questions.width_of.Goals as goal

pub returns-then-old : goal.returns-then-old
unfolding width_of
returns-then-old c = rw c.if-old.true

pub returns-else-old : goal.returns-else-old
unfolding width_of
returns-else-old c = rw c.if-old.false
