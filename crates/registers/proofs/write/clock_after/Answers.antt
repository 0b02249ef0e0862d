-- `registers::write::clock_after` meets its contract.
use borrow.Author.Rules.{rules}
use Rattle.unit.proofs.Tests.{tests}
use Rattle.device.specs.Write.{clock_after}
use Rattle.registers.proofs.write.clock_after.Goals as goal

pub returns : goal.returns
unfolding clock_after
returns c = search (rules, tests)
