-- `item_line_code::parts::is_stop` meets its contract. Assumes nothing.
use Rattle.numeral.specs.Ascii.{ascii}
use Rattle.item_line_code.specs.OwnParts.{is_stop}
use Rattle.item_line_code.proofs.parts.is_stop.Goals as goal

pub returns-then-same : goal.returns-then-same
unfolding is_stop ascii
returns-then-same c = rw (← c.same.ensures, c.if-same.true)

pub returns-then-marks : goal.returns-then-marks
unfolding is_stop ascii
returns-then-marks c = rw (← c.same.ensures, c.if-same.false, c.if-marks.true) c.same-then-marks.ensures

pub returns-else-marks : goal.returns-else-marks
unfolding is_stop ascii
returns-else-marks c = rw (← c.same.ensures, c.if-same.false, c.if-marks.false)
