-- `line_reader::calls::item_call` meets its contract.
-- Assumes nothing.
use Rattle.line.specs.Line.{item_call}
use Rattle.line_reader.proofs.calls.item_call.Goals as goal

pub returns-then-word : goal.returns-then-word
unfolding item_call
returns-then-word c = rw (c.next_word-word.ensures.none c.if-word.true)

pub returns-else-word : goal.returns-else-word
unfolding item_call
returns-else-word c = rw (c.next_word-word.ensures.some c.if-word.false)
