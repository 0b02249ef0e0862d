-- `checker::close::cut_off` meets its contract.
-- Assumes nothing.
use Rattle.item_checks.specs.Close.{cut_off}
use Rattle.checker.proofs.close.cut_off.Goals as goal

pub returns : goal.returns
unfolding cut_off
returns c = rw (← c.more-kept.ensures, ← c.put_left_out.ensures.next, ← c.put_left_out.ensures.bytes)
