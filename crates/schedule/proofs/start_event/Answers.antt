-- `schedule::start_event` meets its contract.
use borrow.Author.Rules.{rules}
use Rattle.unit.proofs.Tests.{tests}
use Rattle.device.specs.Event.{start_event}
use Rattle.schedule.proofs.start_event.Goals as goal

pub returns : goal.returns
unfolding start_event
returns c = search (rules, tests)
