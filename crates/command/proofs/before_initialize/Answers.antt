-- `command::before_initialize` meets its contract.
use borrow.Author.Rules.{rules}
use Rattle.unit.proofs.Tests.{tests}
use Rattle.device.specs.Bus.{before_initialize}
use Rattle.command.proofs.before_initialize.Goals as goal

pub returns-then-starts_flight : goal.returns-then-starts_flight
unfolding before_initialize
returns-then-starts_flight c = search (rules, tests)

pub returns-else-starts_flight : goal.returns-else-starts_flight
unfolding before_initialize
returns-else-starts_flight c = search (rules, tests)

pub returns-else-not-m : goal.returns-else-not-m
unfolding before_initialize
returns-else-not-m c = search (rules, tests)
