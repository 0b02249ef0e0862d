-- `command::event_temperature` meets its contract.
use borrow.Author.Rules.{rules}
use Rattle.unit.proofs.Tests.{tests}
use Rattle.device.specs.Bus.{event_temperature}
use Rattle.command.proofs.event_temperature.Goals as goal

pub returns-then-starts_temperature : goal.returns-then-starts_temperature
unfolding event_temperature
returns-then-starts_temperature c = search (rules, tests)

pub returns-else-starts_temperature : goal.returns-else-starts_temperature
unfolding event_temperature
returns-else-starts_temperature c = search (rules, tests)
