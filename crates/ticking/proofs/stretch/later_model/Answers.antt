-- `ticking::stretch::later_model` meets its contract.
use borrow.Author.Rules.{rules}
use Rattle.unit.proofs.Tests.{tests}
use Rattle.device.specs.StretchSteps.{later_model}
use Rattle.ticking.proofs.stretch.later_model.Goals as goal

pub returns : goal.returns
unfolding later_model
returns c = search (rules, tests)
