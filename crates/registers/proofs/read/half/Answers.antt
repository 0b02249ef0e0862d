-- `registers::read::half` meets its contract.
use borrow.Author.Rules.{rules}
use Rattle.unit.proofs.Tests.{tests}
use Rattle.device.specs.Registers.{half}
use Rattle.registers.proofs.read.half.Goals as goal

pub returns-then-place-eq0 : goal.returns-then-place-eq0
unfolding half
returns-then-place-eq0 c = search (rules, tests)

pub returns-else-place-eq0 : goal.returns-else-place-eq0
unfolding half
returns-else-place-eq0 c = search (rules, tests)
