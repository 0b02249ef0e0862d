-- `schedule::left_after` meets its contract.
use borrow.Author.Rules.{rules}
use Rattle.unit.proofs.Tests.{tests}
use Rattle.device.specs.Event.{left_after}
use Rattle.schedule.proofs.left_after.Goals as goal

pub returns-then-begins : goal.returns-then-begins
unfolding left_after
returns-then-begins c = search (rules, tests)

pub returns-else-begins : goal.returns-else-begins
unfolding left_after
returns-else-begins c = search (rules, tests)
