-- `command::temperature_event` meets its contract.
use borrow.Author.Rules.{rules}
use Rattle.unit.proofs.Tests.{tests}
use Rattle.device.specs.Bus.{temperature_event}
use Rattle.command.proofs.temperature_event.Goals as goal

pub returns : goal.returns
unfolding temperature_event
returns c = search (rules, tests)
