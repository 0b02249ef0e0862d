-- `ticking::stretch::quiet_wait` meets its contract.
use borrow.Author.Rules.{rules}
use Rattle.unit.proofs.Tests.{tests}
use Rattle.device.specs.StretchSteps.{quiet_wait}
use Rattle.ticking.proofs.stretch.quiet_wait.Goals as goal

pub returns-then-k-gt1 : goal.returns-then-k-gt1
unfolding quiet_wait
returns-then-k-gt1 c = search (rules, tests)

pub returns-then-k : goal.returns-then-k
unfolding quiet_wait
returns-then-k c = search (rules, tests)

pub returns-else-not-begins : goal.returns-else-not-begins
unfolding quiet_wait
returns-else-not-begins c = search (rules, tests)
