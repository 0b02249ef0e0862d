-- `command::must_be_idle` meets its contract.
use borrow.Author.Rules.{rules}
use Rattle.unit.proofs.Tests.{tests}
use Rattle.device.specs.Bus.{must_be_idle}
use Rattle.command.proofs.must_be_idle.Goals as goal

pub returns-then-op-ne-RESET : goal.returns-then-op-ne-RESET
unfolding must_be_idle
returns-then-op-ne-RESET c = search (rules, tests)

pub returns-else-op-ne-RESET : goal.returns-else-op-ne-RESET
unfolding must_be_idle
returns-else-op-ne-RESET c = search (rules, tests)
