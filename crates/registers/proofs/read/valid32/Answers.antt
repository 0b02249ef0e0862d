-- `registers::read::valid32` meets its contract.
use Rattle.calendar.specs.Words.{word32}
use Rattle.registers.proofs.read.valid32.Goals as goal

pub returns : goal.returns
unfolding word32
returns c = simp c.digits.ensures.0
