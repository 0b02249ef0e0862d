-- `line_reader::later::set_words` meets its contract.
-- Assumes nothing.
use borrow.Author.Tests.{lt-ltb, le-ltb}
use Rattle.line.specs.Line.{set_words, set_call}
use Rattle.line.proofs.LineLaws.{read-by}
use Rattle.line_reader.proofs.later.set_words.Goals as goal

pub returns-then-count-lt1 : goal.returns-then-count-lt1
unfolding set_words set_call
returns-then-count-lt1 c =
    read-by (set_call _) c.tally.ensures (rw (c.in-All.is, lt-ltb _ _ c.if-count-lt1.true))

pub returns-then-count-gt99 : goal.returns-then-count-gt99
unfolding set_words set_call
returns-then-count-gt99 c =
    read-by (set_call _) c.tally.ensures (rw (c.in-All.is, le-ltb _ _ c.if-count-lt1.false, lt-ltb _ _ c.if-count-gt99.true))

pub returns-in-Wrong : goal.returns-in-Wrong
unfolding set_words set_call
returns-in-Wrong c = read-by (set_call _) c.tally.ensures (rw c.in-Wrong.is)

pub returns-else-count-gt99 : goal.returns-else-count-gt99
unfolding set_words set_call
returns-else-count-gt99 c =
    read-by (set_call _) c.tally.ensures (rw (c.in-All.is, le-ltb _ _ c.if-count-lt1.false, le-ltb _ _ c.if-count-gt99.false))
