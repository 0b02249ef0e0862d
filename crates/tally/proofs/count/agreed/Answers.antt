-- `tally::count::agreed` meets its contract.
-- Assumes nothing.
use Rattle.collection.specs.Tally.{agreed}
use Rattle.tally.proofs.count.agreed.Goals as goal

pub returns-then-is_agreeing : goal.returns-then-is_agreeing
unfolding agreed
returns-then-is_agreeing c = rw (← c.is_agreeing.ensures, c.if-is_agreeing.true) c.more.ensures

pub returns-else-is_agreeing : goal.returns-else-is_agreeing
unfolding agreed
returns-else-is_agreeing c = rw (← c.is_agreeing.ensures, c.if-is_agreeing.false)
