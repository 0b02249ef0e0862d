-- `schedule::begins` meets its contract.
use borrow.Author.Rules.{rules}
use Rattle.unit.proofs.Tests.{tests}
use Rattle.device.specs.Event.{begins}
use Rattle.schedule.proofs.begins.Goals as goal

pub returns-then-starts_left : goal.returns-then-starts_left
unfolding begins
returns-then-starts_left c = search (rules, tests)

pub returns-else-starts_left : goal.returns-else-starts_left
unfolding begins
returns-else-starts_left c = search (rules, tests)
