-- `schedule::tick_schedule` meets its contract.
use borrow.Author.Rules.{rules}
use Rattle.unit.proofs.Tests.{tests}
use Rattle.device.specs.Event.{tick_schedule}
use Rattle.schedule.proofs.tick_schedule.Goals as goal

pub returns : goal.returns
unfolding tick_schedule
returns c = search (rules, tests)
