-- `ticking::stretch::quiet_for` meets its contract.
use borrow.Author.Rules.{rules}
use Rattle.unit.proofs.Tests.{tests}
use Rattle.device.specs.StretchSteps.{quiet_for}
use Rattle.ticking.proofs.stretch.quiet_for.Goals as goal

pub returns : goal.returns
unfolding quiet_for
returns c = search (rules, tests)
