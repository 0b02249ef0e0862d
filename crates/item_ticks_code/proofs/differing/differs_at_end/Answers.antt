-- `item_ticks_code::differing::differs_at_end` meets its contract.
-- Assumes nothing.
use Rattle.item_ticks_code.proofs.differing.differs_at_end.Goals as goal

pub returns-else-h : goal.returns-else-h
returns-else-h c = rw c.if-h.false
