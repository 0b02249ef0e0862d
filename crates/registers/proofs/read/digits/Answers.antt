-- `registers::read::digits` meets its contract.
use native.Mathlib.Omega.{arith}
use Rattle.calendar.specs.Words.{bcd}
use Rattle.registers.proofs.read.digits.Goals as goal

pub returns : goal.returns
unfolding bcd
returns c = (omega arith, omega arith)
