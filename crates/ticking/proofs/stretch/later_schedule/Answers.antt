-- `ticking::stretch::later_schedule` meets its contract.
use borrow.Author.Rules.{rules}
use Rattle.unit.proofs.Tests.{tests}
use Rattle.device.specs.StretchSteps.{later_schedule}
use Rattle.ticking.proofs.stretch.later_schedule.Goals as goal

pub returns : goal.returns
unfolding later_schedule
returns c = search (rules, tests)
