-- `command::flight_started` meets its contract.
use borrow.Author.Rules.{rules}
use Rattle.unit.proofs.Tests.{tests}
use Rattle.device.specs.Bus.{flight_started}
use Rattle.command.proofs.flight_started.Goals as goal

pub returns : goal.returns
unfolding flight_started
returns c = search (rules, tests)
