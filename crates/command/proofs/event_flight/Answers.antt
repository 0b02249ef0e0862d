-- `command::event_flight` meets its contract.
use borrow.Author.Rules.{rules}
use Rattle.unit.proofs.Tests.{tests}
use Rattle.device.specs.Bus.{event_flight}
use Rattle.command.proofs.event_flight.Goals as goal

pub returns-then-starts_flight : goal.returns-then-starts_flight
unfolding event_flight
returns-then-starts_flight c = search (rules, tests)

pub returns-else-starts_flight : goal.returns-else-starts_flight
unfolding event_flight
returns-else-starts_flight c = search (rules, tests)
