-- `command::command_unset` meets its contract.
use borrow.Author.Rules.{rules}
use Rattle.unit.proofs.Tests.{tests}
use Rattle.device.specs.Bus.{command_unset}
use Rattle.command.proofs.command_unset.Goals as goal

pub returns-then-flight_side_unset : goal.returns-then-flight_side_unset
unfolding command_unset
returns-then-flight_side_unset c = search (rules, tests)

pub returns-else-flight_side_unset : goal.returns-else-flight_side_unset
unfolding command_unset
returns-else-flight_side_unset c = search (rules, tests)
