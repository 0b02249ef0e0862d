-- `schedule::no_schedule` meets its contract.
use borrow.Author.Rules.{rules}
use Rattle.unit.proofs.Tests.{tests}
use Rattle.device.specs.Event.{no_schedule}
use Rattle.schedule.proofs.no_schedule.Goals as goal

pub returns : goal.returns
unfolding no_schedule
returns c = search (rules, tests)
