-- `item_line_code::line::content_length` meets its contract. Assumes nothing.
use mathlib.Core.Path.{sym, ◌∙◌}
use native.Mathlib.Omega.{arith}
use lib.Seq.{take-length}
use Rattle.item_line_code.proofs.LineLaws.{no_return, return-drops, return-none}
use Rattle.item_line_code.proofs.line.content_length.Goals as goal

pub returns-then-n-lt1 : goal.returns-then-n-lt1
returns-then-n-lt1 c = (no_return c.args.text.now (omega arith), omega arith)

pub returns-then-text-n-eq13 : goal.returns-then-text-n-eq13
returns-then-text-n-eq13 c = (return-drops c.args.text.now _ (omega arith) c.if-text-n-eq13.true, omega arith)

pub returns-else-text-n-eq13 : goal.returns-else-text-n-eq13
returns-else-text-n-eq13 c = (return-none c.args.text.now _ (omega arith) c.if-text-n-eq13.false ∙ sym (take-length c.args.text.now), omega arith)
