-- `item_line_code::reads::alone` meets its contract. Assumes nothing.
use Rattle.item_line_code.specs.OwnReads.{as_read}
use Rattle.item_line.specs.OwnRead.{as_fault, as_line}
use Rattle.item_line_code.proofs.ReadLaws.{counted_none, counted-some}
use Rattle.item_line_code.proofs.reads.alone.Goals as goal

pub returns-then-word : goal.returns-then-word
unfolding as_fault as_read as_line
returns-then-word c = λ l. counted_none _ _ (c.next_in-word.ensures.none c.if-word.true)

pub returns-else-word : goal.returns-else-word
unfolding as_fault as_read as_line
returns-else-word c = λ l. counted-some _ (c.next_in-word.ensures.some c.if-word.false)
