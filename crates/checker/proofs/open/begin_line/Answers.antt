-- `checker::open::begin_line` meets its contract.
-- Assumes nothing.
use Rattle.item_checks.specs.Open.{begun}
use Rattle.checker.proofs.open.begin_line.Goals as goal

pub returns : goal.returns
unfolding begun
returns c = rw (← c.count_line.ensures, ← c.put_head.ensures)
