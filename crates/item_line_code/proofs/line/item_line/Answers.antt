-- `item_line_code::line::item_line` meets its contract. Assumes nothing.
use Rattle.item_line_code.specs.OwnReads.{as_read}
use Rattle.item_line.specs.Reading.{item_line}
use Rattle.item_line.specs.OwnRead.{as_fault, as_line}
use Rattle.item_line_code.proofs.line.item_line.Goals as goal

pub returns-then-word : goal.returns-then-word
unfolding item_line as_fault as_read as_line
returns-then-word c = λ l. rw (c.next_in-word.ensures.none c.if-word.true)

pub returns-else-word : goal.returns-else-word
unfolding item_line as_fault as_read as_line
returns-else-word c = λ l. rw (c.next_in-word.ensures.some c.if-word.false)
