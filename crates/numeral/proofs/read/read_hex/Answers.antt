-- `numeral::read::read_hex` meets its contract.
-- Assumes nothing.
use borrow.Author.Tests.{lt-ltb, le-ltb}
use Rattle.numeral.specs.Read.{read_hex}
use Rattle.numeral.proofs.read.read_hex.Goals as goal
use Rattle.numeral.proofs.read.read_hex.Goals.{then-s-lt1-via-then-s-lt1, then-s-lt1-via-else-s-lt1+then-s-least, then-s-lt1-via-else-s-lt1+else-s-least+then-most-s, then-s-lt1-via-else-s-lt1+else-s-least+else-most-s+then-s-gt8}

pub returns-then-s-lt1 : goal.returns-then-s-lt1
unfolding read_hex
returns-then-s-lt1 c =
    elim c.then-s-lt1.branch [
      | then-s-lt1-via-then-s-lt1 w ↦ rw (lt-ltb _ _ w.if-s-lt1.true)
      | then-s-lt1-via-else-s-lt1+then-s-least w ↦ rw (le-ltb _ _ w.if-s-lt1.false, lt-ltb _ _ w.if-s-least.true)
      | then-s-lt1-via-else-s-lt1+else-s-least+then-most-s w ↦ rw (le-ltb _ _ w.if-s-lt1.false, le-ltb _ _ w.if-s-least.false, lt-ltb _ _ w.if-most-s.true)
      | then-s-lt1-via-else-s-lt1+else-s-least+else-most-s+then-s-gt8 w ↦ rw (le-ltb _ _ w.if-s-lt1.false, le-ltb _ _ w.if-s-least.false, le-ltb _ _ w.if-most-s.false, lt-ltb _ _ w.if-s-gt8.true)
    ]

pub returns : goal.returns
unfolding read_hex
returns c = rw (le-ltb _ _ c.if-s-lt1.false, le-ltb _ _ c.if-s-least.false, le-ltb _ _ c.if-most-s.false, le-ltb _ _ c.if-s-gt8.false) c.value_in.ensures
