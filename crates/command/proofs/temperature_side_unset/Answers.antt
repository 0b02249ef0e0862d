-- `command::temperature_side_unset` meets its contract.
use borrow.Author.Rules.{rules}
use Rattle.unit.proofs.Tests.{tests}
use Rattle.device.specs.Bus.{temperature_side_unset}
use Rattle.command.proofs.temperature_side_unset.Goals as goal

pub returns-then-starts_temperature : goal.returns-then-starts_temperature
unfolding temperature_side_unset
returns-then-starts_temperature c = search (rules, tests)

pub returns-else-starts_temperature : goal.returns-else-starts_temperature
unfolding temperature_side_unset
returns-else-starts_temperature c = search (rules, tests)
