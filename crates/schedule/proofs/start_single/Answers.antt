-- `schedule::start_single` meets its contract.
use borrow.Author.Rules.{rules}
use Rattle.unit.proofs.Tests.{tests}
use Rattle.device.specs.Event.{start_single}
use Rattle.schedule.proofs.start_single.Goals as goal

pub returns : goal.returns
unfolding start_single
returns c = search (rules, tests)
