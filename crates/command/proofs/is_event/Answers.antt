-- `command::is_event` meets its contract.
use borrow.Author.Rules.{rules}
use Rattle.unit.proofs.Tests.{tests}
use Rattle.device.specs.Bus.{is_event}
use Rattle.command.proofs.is_event.Goals as goal

pub returns : goal.returns
unfolding is_event
returns c = search (rules, tests)
