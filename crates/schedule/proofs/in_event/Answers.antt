-- `schedule::in_event` meets its contract.
use borrow.Author.Rules.{rules}
use Rattle.unit.proofs.Tests.{tests}
use Rattle.device.specs.Event.{in_event}
use Rattle.schedule.proofs.in_event.Goals as goal

pub returns-then-k : goal.returns-then-k
unfolding in_event
returns-then-k c = search (rules, tests)

pub returns-else-k : goal.returns-else-k
unfolding in_event
returns-else-k c = search (rules, tests)
