-- `command::event_side_unset` meets its contract.
use borrow.Author.Rules.{rules}
use Rattle.unit.proofs.Tests.{tests}
use Rattle.device.specs.Bus.{event_side_unset}
use Rattle.command.proofs.event_side_unset.Goals as goal

pub returns-then-is_event : goal.returns-then-is_event
unfolding event_side_unset
returns-then-is_event c = search (rules, tests)

pub returns-else-is_event : goal.returns-else-is_event
unfolding event_side_unset
returns-else-is_event c = search (rules, tests)
