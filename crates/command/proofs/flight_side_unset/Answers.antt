-- `command::flight_side_unset` meets its contract.
use borrow.Author.Rules.{rules}
use Rattle.unit.proofs.Tests.{tests}
use Rattle.device.specs.Bus.{flight_side_unset}
use Rattle.command.proofs.flight_side_unset.Goals as goal

pub returns-then-starts_flight : goal.returns-then-starts_flight
unfolding flight_side_unset
returns-then-starts_flight c = search (rules, tests)

pub returns-else-starts_flight : goal.returns-else-starts_flight
unfolding flight_side_unset
returns-else-starts_flight c = search (rules, tests)
