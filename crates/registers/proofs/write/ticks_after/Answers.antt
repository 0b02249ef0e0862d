-- `registers::write::ticks_after` meets its contract.
use borrow.Author.Rules.{rules}
use Rattle.unit.proofs.Tests.{tests}
use Rattle.device.specs.Write.{ticks_after, covers}
use Rattle.registers.proofs.write.ticks_after.Goals as goal

pub returns-then-op-n-gt48 : goal.returns-then-op-n-gt48
unfolding ticks_after covers
returns-then-op-n-gt48 c = search (rules, tests)

pub returns-else-op-le48 : goal.returns-else-op-le48
unfolding ticks_after covers
returns-else-op-le48 c = search (rules, tests)
