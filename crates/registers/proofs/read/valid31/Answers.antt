-- `registers::read::valid31` meets its contract.
use Rattle.calendar.specs.Words.{hour_digits, word31}
use Rattle.registers.proofs.read.valid31.Goals as goal

pub returns : goal.returns
unfolding word31 hour_digits
returns c = rw c.if-c.false (simp (c.digits.ensures.0, c.digits-2.ensures.0))
