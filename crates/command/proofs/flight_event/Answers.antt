-- `command::flight_event` meets its contract.
use borrow.Author.Rules.{rules}
use Rattle.unit.proofs.Tests.{tests}
use Rattle.device.specs.Bus.{flight_event}
use Rattle.command.proofs.flight_event.Goals as goal

pub returns : goal.returns
unfolding flight_event
returns c = search (rules, tests)
