-- `line_reader::later::set_from` meets its contract.
-- Assumes nothing.
use borrow.Author.Tests.{lt-ltb, le-ltb}
use Rattle.line.specs.Line.{set_from}
use Rattle.line_reader.proofs.later.set_from.Goals as goal

pub returns-then-a-lt48 : goal.returns-then-a-lt48
unfolding set_from
returns-then-a-lt48 c = rw (c.in-Some.is, lt-ltb _ _ c.if-a-lt48.true)

pub returns-then-a-gt67 : goal.returns-then-a-gt67
unfolding set_from
returns-then-a-gt67 c = rw (c.in-Some.is, le-ltb _ _ c.if-a-lt48.false, lt-ltb _ _ c.if-a-gt67.true)

pub returns-in-None : goal.returns-in-None
unfolding set_from
returns-in-None c = rw c.in-None.is

pub returns-else-a-gt67 : goal.returns-else-a-gt67
unfolding set_from
returns-else-a-gt67 c =
    rw (c.in-Some.is, le-ltb _ _ c.if-a-lt48.false, le-ltb _ _ c.if-a-gt67.false) c.set_words.ensures
