-- `registers::read::read_model` meets its contract.
use borrow.Author.Tests.{le-leb, le-ltb, lt-leb, lt-ltb}
use Rattle.device.specs.Bus.{read_model}
use borrow.Author.Rules.{rules}
use Rattle.registers.proofs.read.read_model.Goals as goal

pub returns-then-a-gt254 : goal.returns-then-a-gt254
unfolding read_model
returns-then-a-gt254 c = simp (lt-ltb _ _ c.if-a-gt254.true)

pub returns-then-a-n-le254 : goal.returns-then-a-n-le254
unfolding read_model
returns-then-a-n-le254 c = simp (le-leb _ _ c.if-a-n-le254.true, le-ltb _ _ c.if-a-gt254.false)

pub returns : goal.returns
unfolding read_model
returns c = simp (← c.no_bits-status.ensures, lt-leb _ _ c.if-a-n-le254.false, le-ltb _ _ c.if-a-gt254.false)
