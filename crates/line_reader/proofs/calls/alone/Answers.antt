-- `line_reader::calls::alone` meets its contract.
-- Assumes nothing.
use Rattle.line.specs.Line.{alone}
use Rattle.line_reader.proofs.calls.alone.Goals as goal

pub returns-then-word : goal.returns-then-word
unfolding alone
returns-then-word c = rw (c.next_word-word.ensures.none c.if-word.true)

pub returns-else-word : goal.returns-else-word
unfolding alone
returns-else-word c = rw (c.next_word-word.ensures.some c.if-word.false)
