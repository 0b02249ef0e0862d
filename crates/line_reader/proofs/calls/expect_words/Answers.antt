-- `line_reader::calls::expect_words` meets its contract.
-- Assumes nothing.
use borrow.Author.Tests.{lt-ltb, le-ltb}
use Rattle.line.specs.Line.{expect_words, expect_call}
use Rattle.line.proofs.LineLaws.{read-by}
use Rattle.line_reader.proofs.calls.expect_words.Goals as goal

pub returns-then-count-lt1 : goal.returns-then-count-lt1
unfolding expect_words expect_call
returns-then-count-lt1 c =
    read-by (expect_call _) c.tally.ensures (rw (c.in-All.is, lt-ltb _ _ c.if-count-lt1.true))

pub returns-then-most-count : goal.returns-then-most-count
unfolding expect_words expect_call
returns-then-most-count c =
    read-by (expect_call _) c.tally.ensures (rw (c.in-All.is, le-ltb _ _ c.if-count-lt1.false, lt-ltb _ _ c.if-most-count.true))

pub returns-in-Wrong : goal.returns-in-Wrong
unfolding expect_words expect_call
returns-in-Wrong c = read-by (expect_call _) c.tally.ensures (rw c.in-Wrong.is)

pub returns-else-most-count : goal.returns-else-most-count
unfolding expect_words expect_call
returns-else-most-count c =
    read-by (expect_call _) c.tally.ensures (rw (c.in-All.is, le-ltb _ _ c.if-count-lt1.false, le-ltb _ _ c.if-most-count.false))
