-- `line_reader::mark::behind_mark` meets its contract.
-- Assumes nothing.
use borrow.Author.Tests.{lt-ltb, le-ltb}
use Rattle.line.specs.Mark.{behind_place}
use Rattle.line_reader.proofs.mark.behind_mark.Goals as goal

pub returns-then-part : goal.returns-then-part
unfolding behind_place
returns-then-part c = rw (lt-ltb _ _ c.if-part.true)

pub returns-else-part : goal.returns-else-part
unfolding behind_place
returns-else-part c = rw (le-ltb _ _ c.if-part.false)
