-- `item_line_code::table::other_line` meets its contract. Assumes nothing.
use Rattle.item_line_code.specs.OwnReads.{as_read}
use Rattle.numeral.specs.Ascii.{ascii}
use Rattle.item_line.specs.Reading.{table, read_by}
use Rattle.item_line.specs.OwnRead.{as_fault, as_ask, as_call, as_line}
use Rattle.item_line_code.specs.OwnReads.{counted_call}
use Rattle.item_line_code.proofs.table.other_line.Goals as goal

pub returns-then-same : goal.returns-then-same
unfolding table read_by ascii as_read as_line as_fault as_ask as_call counted_call
returns-then-same c = rw (← c.part_of-w.ensures, ← c.same.ensures, c.if-same.true) (c.decimal_line.ensures _)

pub returns-then-same-2 : goal.returns-then-same-2
unfolding table read_by ascii as_read as_line as_fault as_ask as_call counted_call
returns-then-same-2 c = rw (← c.part_of-w.ensures, ← c.same.ensures, c.if-same.false, ← c.same-2.ensures, c.if-same-2.true) (c.alone.ensures _)

pub returns-then-same-3 : goal.returns-then-same-3
unfolding table read_by ascii as_read as_line as_fault as_ask as_call counted_call
returns-then-same-3 c = rw (← c.part_of-w.ensures, ← c.same.ensures, c.if-same.false, ← c.same-2.ensures, c.if-same-2.false, ← c.same-3.ensures, c.if-same-3.true) c.probe_line.ensures

pub returns-then-same-4 : goal.returns-then-same-4
unfolding table read_by ascii as_read as_line as_fault as_ask as_call counted_call
returns-then-same-4 c = rw (← c.part_of-w.ensures, ← c.same.ensures, c.if-same.false, ← c.same-2.ensures, c.if-same-2.false, ← c.same-3.ensures, c.if-same-3.false, ← c.same-4.ensures, c.if-same-4.true) c.degrees_line.ensures

pub returns : goal.returns
unfolding table read_by ascii as_read as_line as_fault as_ask as_call counted_call
returns c = rw (← c.part_of-w.ensures, ← c.same.ensures, c.if-same.false, ← c.same-2.ensures, c.if-same-2.false, ← c.same-3.ensures, c.if-same-3.false, ← c.same-4.ensures, c.if-same-4.false, c.part_of-w.ensures) c.last_line.ensures
