-- `item_ticks_code::differing::hold_where` meets its contract.
-- Assumes nothing.
use Rattle.item_ticks_code.proofs.Holding.{held-not}
use Rattle.item_ticks_code.proofs.differing.hold_where.Goals as goal

pub returns-then-happened : goal.returns-then-happened
returns-then-happened c = rw c.if-happened.true c.hold.ensures

pub returns : goal.returns
returns c = rw c.if-happened.false (held-not _ _ c.requires.0)
