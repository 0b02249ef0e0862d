-- `schedule::settle` meets its contract.
use borrow.Author.Rules.{rules}
use Rattle.unit.proofs.Tests.{tests}
use Rattle.device.specs.Event.{settle}
use Rattle.schedule.proofs.settle.Goals as goal

pub returns-after-good : goal.returns-after-good
unfolding settle
returns-after-good c = search (rules, tests)

pub returns-else-k : goal.returns-else-k
unfolding settle
returns-else-k c = search (rules, tests)
