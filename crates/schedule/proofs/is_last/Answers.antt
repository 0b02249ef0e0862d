-- `schedule::is_last` meets its contract.
use borrow.Author.Rules.{rules}
use Rattle.unit.proofs.Tests.{tests}
use Rattle.device.specs.Event.{is_last}
use Rattle.schedule.proofs.is_last.Goals as goal

pub returns-then-k : goal.returns-then-k
unfolding is_last
returns-then-k c = search (rules, tests)

pub returns-else-k : goal.returns-else-k
unfolding is_last
returns-else-k c = search (rules, tests)
