-- `line_buffer::has_line` meets its contract.
-- Assumes nothing.
use mathlib.Core.Path.{sym}
use Rattle.line_buffer.proofs.LineLaws.{has-line}
use Rattle.line_buffer.proofs.has_line.Goals as goal

pub returns : goal.returns
returns c = rw c.line_end.ensures.0 (sym (has-line _))
