-- `checker::open::open` meets its contract.
-- Assumes nothing.
use Rattle.item_checks.specs.Open.{opened}
use Rattle.checker.proofs.OpenLaws.{left-bounded}
use Rattle.checker.proofs.open.open.Goals as goal

pub returns : goal.returns
unfolding opened
returns c = (
  left-bounded _ _ c.answer_fault-left.ensures.0,
  rw (← c.begin_line.ensures, ← c.answer_fault-left.ensures.0, ← c.answer_fault-left.ensures.1, ← c.put_item.ensures),
)
