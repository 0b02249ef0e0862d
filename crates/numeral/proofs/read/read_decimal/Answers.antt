-- `numeral::read::read_decimal` meets its contract.
-- Assumes nothing.
use borrow.Author.Tests.{lt-ltb, le-ltb}
use Rattle.numeral.specs.Read.{read_decimal}
use Rattle.numeral.proofs.read.read_decimal.Goals as goal
use Rattle.numeral.proofs.read.read_decimal.Goals.{then-s-lt1-via-then-s-lt1, then-s-lt1-via-else-s-lt1+then-s-gt10}

pub returns-then-s-lt1 : goal.returns-then-s-lt1
unfolding read_decimal
returns-then-s-lt1 c =
    elim c.then-s-lt1.branch [
      | then-s-lt1-via-then-s-lt1 w ↦ rw (lt-ltb _ _ w.if-s-lt1.true)
      | then-s-lt1-via-else-s-lt1+then-s-gt10 w ↦ rw (le-ltb _ _ w.if-s-lt1.false, lt-ltb _ _ w.if-s-gt10.true)
    ]

pub returns : goal.returns
unfolding read_decimal
returns c = rw (le-ltb _ _ c.if-s-lt1.false, le-ltb _ _ c.if-s-gt10.false) (rw c.from.ensures at c.value_in.ensures)
