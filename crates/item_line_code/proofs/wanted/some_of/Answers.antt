-- `item_line_code::wanted::some_of` meets its contract. Assumes nothing.
use borrow.Author.Tests.{lt-ltb, le-ltb}
use Rattle.item_line_code.proofs.wanted.some_of.Goals as goal

pub returns-then-count-lt1 : goal.returns-then-count-lt1
returns-then-count-lt1 c = rw (lt-ltb _ _ c.if-count-lt1.true)

pub returns-else-count-lt1 : goal.returns-else-count-lt1
returns-else-count-lt1 c = rw (le-ltb _ _ c.if-count-lt1.false)
