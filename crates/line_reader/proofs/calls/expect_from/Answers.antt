-- `line_reader::calls::expect_from` meets its contract.
-- Assumes nothing.
use borrow.Author.Tests.{lt-ltb, le-ltb}
use Rattle.line.specs.Line.{expect_from}
use Rattle.line_reader.proofs.calls.expect_from.Goals as goal

pub returns-then-a-lt176 : goal.returns-then-a-lt176
unfolding expect_from
returns-then-a-lt176 c = rw (c.in-Some.is, lt-ltb _ _ c.if-a-lt176.true)

pub returns-then-a-gt255 : goal.returns-then-a-gt255
unfolding expect_from
returns-then-a-gt255 c = rw (c.in-Some.is, le-ltb _ _ c.if-a-lt176.false, lt-ltb _ _ c.if-a-gt255.true)

pub returns-in-None : goal.returns-in-None
unfolding expect_from
returns-in-None c = rw c.in-None.is

pub returns-else-a-gt255 : goal.returns-else-a-gt255
unfolding expect_from
returns-else-a-gt255 c =
    rw (c.in-Some.is, le-ltb _ _ c.if-a-lt176.false, le-ltb _ _ c.if-a-gt255.false) c.expect_words.ensures
