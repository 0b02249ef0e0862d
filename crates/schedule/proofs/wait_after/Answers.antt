-- `schedule::wait_after` meets its contract.
use borrow.Author.Rules.{rules}
use Rattle.unit.proofs.Tests.{tests}
use Rattle.device.specs.Event.{wait_after}
use Rattle.schedule.proofs.wait_after.Goals as goal

pub returns-then-k-le1 : goal.returns-then-k-le1
unfolding wait_after
returns-then-k-le1 c = search (rules, tests)

pub returns-else-k-le1 : goal.returns-else-k-le1
unfolding wait_after
returns-else-k-le1 c = search (rules, tests)
