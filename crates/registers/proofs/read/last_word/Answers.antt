-- `registers::read::last_word` meets its contract.
use borrow.Author.Rules.{rules}
use Rattle.unit.proofs.Tests.{tests}
use Rattle.registers.proofs.read.last_word.Goals as goal

pub returns-then-a-eq254 : goal.returns-then-a-eq254
returns-then-a-eq254 c = search (rules, tests)

pub returns-else-a-eq254 : goal.returns-else-a-eq254
returns-else-a-eq254 c = search (rules, tests)
