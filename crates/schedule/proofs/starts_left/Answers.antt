-- `schedule::starts_left` meets its contract.
use borrow.Author.Rules.{rules}
use Rattle.unit.proofs.Tests.{tests}
use Rattle.device.specs.Event.{starts_left}
use Rattle.schedule.proofs.starts_left.Goals as goal

pub returns-then-k : goal.returns-then-k
unfolding starts_left
returns-then-k c = search (rules, tests)

pub returns-else-k : goal.returns-else-k
unfolding starts_left
returns-else-k c = search (rules, tests)
