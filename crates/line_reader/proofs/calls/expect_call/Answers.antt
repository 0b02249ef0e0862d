-- `line_reader::calls::expect_call` meets its contract.
-- Assumes nothing.
use Rattle.line.specs.Line.{expect_reading}
use Rattle.line_reader.proofs.calls.expect_call.Goals as goal

pub returns-then-end-start : goal.returns-then-end-start
unfolding expect_reading
returns-then-end-start c = rw (c.next_word-word.ensures.none c.if-end-start.true)

pub returns : goal.returns
unfolding expect_reading
returns c =
    rw (c.next_word-word.ensures.some c.if-end-start.false, ← c.read_hex.ensures) c.expect_from.ensures
