-- `schedule::begins_group` meets its contract.
use borrow.Author.Rules.{rules}
use Rattle.unit.proofs.Tests.{tests}
use Rattle.device.specs.Event.{begins_group}
use Rattle.schedule.proofs.begins_group.Goals as goal

pub returns-then-begins : goal.returns-then-begins
unfolding begins_group
returns-then-begins c = search (rules, tests)

pub returns-else-begins : goal.returns-else-begins
unfolding begins_group
returns-else-begins c = search (rules, tests)
