-- `registers::read::valid30` meets its contract.
use Rattle.calendar.specs.Words.{hundredths_of, word30}
use Rattle.registers.proofs.read.valid30.Goals as goal

pub returns : goal.returns
unfolding word30 hundredths_of
returns c = simp (c.digits.ensures.0, c.digits-2.ensures.0)
