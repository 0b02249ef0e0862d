-- `schedule::started_after` meets its contract.
use borrow.Author.Rules.{rules}
use Rattle.unit.proofs.Tests.{tests}
use Rattle.device.specs.Event.{started_after}
use Rattle.schedule.proofs.started_after.Goals as goal

pub returns-then-not-begins : goal.returns-then-not-begins
unfolding started_after
returns-then-not-begins c = search (rules, tests)

pub returns-then-k : goal.returns-then-k
unfolding started_after
returns-then-k c = search (rules, tests)

pub returns-else-k : goal.returns-else-k
unfolding started_after
returns-else-k c = search (rules, tests)
