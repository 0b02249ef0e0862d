-- `registers::read::valid33` meets its contract.
use Rattle.calendar.specs.Words.{word33}
use Rattle.registers.proofs.read.valid33.Goals as goal

pub returns : goal.returns
unfolding word33
returns c = simp (c.digits.ensures.0, c.digits-2.ensures.0)
