-- `schedule::settled_after` meets its contract.
use borrow.Author.Rules.{rules}
use Rattle.unit.proofs.Tests.{tests}
use Rattle.device.specs.Event.{settled_after}
use Rattle.schedule.proofs.settled_after.Goals as goal

pub returns-then-begins_group : goal.returns-then-begins_group
unfolding settled_after
returns-then-begins_group c = search (rules, tests)

pub returns-then-k : goal.returns-then-k
unfolding settled_after
returns-then-k c = search (rules, tests)

pub returns-else-fails : goal.returns-else-fails
unfolding settled_after
returns-else-fails c = search (rules, tests)
