-- `line_reader::mark::call_part` meets its contract.
-- Assumes nothing.
use Rattle.line.proofs.MarkLaws.{whole-call}
use Rattle.line_reader.proofs.mark.call_part.Goals as goal

pub returns-then-takes : goal.returns-then-takes
returns-then-takes c = rw c.if-takes.true c.marked_part.ensures

pub returns-else-takes : goal.returns-else-takes
returns-else-takes c = rw c.if-takes.false (whole-call _ _ c.requires.0)
