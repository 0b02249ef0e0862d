-- `item_line_code::line::read_line` meets its contract. Assumes nothing.
use Rattle.item_line_code.specs.OwnReads.{as_read}
use mathlib.Core.Path.{sym, ◌∙◌}
use Rattle.item_line.specs.OwnRead.{as_fault, as_line}
use Rattle.item_line_code.proofs.LineLaws.{too_long, no_longer}
use Rattle.item_line_code.proofs.line.read_line.Goals as goal

pub returns-then-n-gt1000 : goal.returns-then-n-gt1000
unfolding as_read as_line as_fault
returns-then-n-gt1000 c = sym (too_long _ _ c.content_length-n.ensures.0 c.content_length-n.ensures.1 c.if-n-gt1000.true)

pub returns-in-Ok : goal.returns-in-Ok
unfolding as_read
returns-in-Ok c = c.in-Ok.ensures ∙ sym (no_longer _ _ c.content_length-n.ensures.0 c.content_length-n.ensures.1 c.if-n-gt1000.false)

pub returns-in-Err : goal.returns-in-Err
unfolding as_read as_line
returns-in-Err c = c.in-Err.ensures ∙ sym (no_longer _ _ c.content_length-n.ensures.0 c.content_length-n.ensures.1 c.if-n-gt1000.false)
