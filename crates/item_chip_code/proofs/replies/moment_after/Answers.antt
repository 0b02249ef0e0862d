-- `item_chip_code::replies::moment_after` meets its contract. Assumes nothing.
use Rattle.item_chip_code.proofs.replies.moment_after.Goals as goal

pub returns-then-starts : goal.returns-then-starts
returns-then-starts c = rw (← c.starts.ensures, c.if-starts.true)

pub returns-else-starts : goal.returns-else-starts
returns-else-starts c = rw (← c.starts.ensures, c.if-starts.false)
