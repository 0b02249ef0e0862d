-- `schedule::halt_schedule` meets its contract.
use borrow.Author.Rules.{rules}
use Rattle.unit.proofs.Tests.{tests}
use Rattle.device.specs.Event.{halt_schedule}
use Rattle.schedule.proofs.halt_schedule.Goals as goal

pub returns : goal.returns
unfolding halt_schedule
returns c = search (rules, tests)
