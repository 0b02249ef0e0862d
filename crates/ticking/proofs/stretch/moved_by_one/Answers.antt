-- `ticking::stretch::moved_by_one` meets its contract.
use borrow.Author.Rules.{rules}
use Rattle.unit.proofs.Tests.{tests}
use Rattle.device.specs.StretchSteps.{moved_by_one}
use Rattle.ticking.proofs.stretch.moved_by_one.Goals as goal

pub returns : goal.returns
unfolding moved_by_one
returns c = search (rules, tests)
