-- `item_replay_code::lines::has_marks` meets its contract.
-- Assumes nothing.
use borrow.Author.Tests.{lt-ltb, le-ltb}
use Rattle.item_replay_code.proofs.lines.has_marks.Goals as goal

pub returns-then-count-marks : goal.returns-then-count-marks
returns-then-count-marks c = rw (lt-ltb _ _ c.if-count-marks.true)

pub returns-else-count-marks : goal.returns-else-count-marks
returns-else-count-marks c = rw (le-ltb _ _ c.if-count-marks.false)
