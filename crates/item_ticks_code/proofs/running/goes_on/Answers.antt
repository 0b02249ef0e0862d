-- `item_ticks_code::running::goes_on` meets its contract.
-- Assumes nothing.
use borrow.Author.Tests.{lt-ltb, le-ltb}
use Rattle.item_ticks_code.proofs.running.goes_on.Goals as goal

pub returns-then-r-gt0 : goal.returns-then-r-gt0
returns-then-r-gt0 c = rw (lt-ltb _ _ c.if-r-gt0.true) c.has_room.ensures

pub returns-else-r-gt0 : goal.returns-else-r-gt0
returns-else-r-gt0 c = rw (le-ltb _ _ c.if-r-gt0.false)
