-- `checker::close::trouble` meets its contract.
-- Assumes nothing.
use Rattle.item_checks.specs.Close.{trouble}
use Rattle.checker.proofs.close.trouble.Goals as goal

pub returns : goal.returns
unfolding trouble
returns c = rw (← c.more.ensures, ← c.more-2.ensures)
