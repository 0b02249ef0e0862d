-- `ticking::stretch::quiet_left` meets its contract.
use borrow.Author.Rules.{rules}
use Rattle.unit.proofs.Tests.{tests}
use Rattle.device.specs.StretchSteps.{quiet_left}
use Rattle.ticking.proofs.stretch.quiet_left.Goals as goal

pub returns-then-k-eq0 : goal.returns-then-k-eq0
unfolding quiet_left
returns-then-k-eq0 c = search (rules, tests)

pub returns-else-k-eq0 : goal.returns-else-k-eq0
unfolding quiet_left
returns-else-k-eq0 c = search (rules, tests)
