-- `registers::write::written` meets its contract.
use borrow.Author.Rules.{rules}
use Rattle.unit.proofs.Tests.{tests}
use Rattle.device.specs.Write.{written, covers}
use Rattle.registers.proofs.write.written.Goals as goal

pub returns-then-a-op : goal.returns-then-a-op
unfolding written covers
returns-then-a-op c = search (rules, tests)

pub returns-else-op-a : goal.returns-else-op-a
unfolding written covers
returns-else-op-a c = search (rules, tests)
