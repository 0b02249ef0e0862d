-- `ticking::stretch::moved_quietly` meets its contract.
use borrow.Author.Rules.{rules}
use Rattle.unit.proofs.Tests.{tests}
use Rattle.device.specs.StretchSteps.{moved_quietly}
use Rattle.ticking.proofs.stretch.moved_quietly.Goals as goal

pub returns : goal.returns
unfolding moved_quietly
returns c = search (rules, tests)
