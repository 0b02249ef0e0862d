-- `command::command_busy` meets its contract.
use borrow.Author.Rules.{rules}
use Rattle.unit.proofs.Tests.{tests}
use Rattle.device.specs.Bus.{command_busy}
use Rattle.command.proofs.command_busy.Goals as goal

pub returns-then-must_be_idle : goal.returns-then-must_be_idle
unfolding command_busy
returns-then-must_be_idle c = search (rules, tests)

pub returns-else-must_be_idle : goal.returns-else-must_be_idle
unfolding command_busy
returns-else-must_be_idle c = search (rules, tests)
