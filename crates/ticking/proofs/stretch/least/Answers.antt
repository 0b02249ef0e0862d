-- `ticking::stretch::least` meets its contract.
use borrow.Author.Rules.{rules}
use Rattle.unit.proofs.Tests.{tests}
use Rattle.device.specs.StretchSteps.{least}
use Rattle.ticking.proofs.stretch.least.Goals as goal

pub returns : goal.returns
unfolding least
returns c = search (rules, tests)
