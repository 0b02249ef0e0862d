-- `registers::read::temperature_word` meets its contract.
use borrow.Author.Tests.{eq-eqb, le-ltb, lt-ltb, ne_eqb}
use Rattle.device.specs.Registers.{temperature_word}
use borrow.Author.Rules.{rules}
use Rattle.registers.proofs.read.temperature_word.Goals as goal

pub returns-then-a-lt239 : goal.returns-then-a-lt239
unfolding temperature_word
returns-then-a-lt239 c = simp (← c.half.ensures, lt-ltb _ _ c.if-a-lt239.true)

pub returns-then-a-eq239 : goal.returns-then-a-eq239
unfolding temperature_word
returns-then-a-eq239 c = simp (eq-eqb _ _ c.if-a-eq239.true, le-ltb _ _ c.if-a-lt239.false)

pub returns : goal.returns
unfolding temperature_word
returns c = simp (← c.half-2.ensures, ← c.port_mean.ensures, ne_eqb _ _ c.if-a-eq239.false, le-ltb _ _ c.if-a-lt239.false)
