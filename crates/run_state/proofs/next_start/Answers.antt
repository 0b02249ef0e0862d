-- `run_state::next_start` meets its contract.
use borrow.Author.Rules.{rules}
use Rattle.unit.proofs.Tests.{tests}
use Rattle.run_state.specs.Event.{next_start}
use Rattle.device.specs.Event.{starts_left}
use Rattle.run_state.proofs.next_start.Goals as goal

pub returns-then-k-2 : goal.returns-then-k-2
unfolding next_start starts_left
returns-then-k-2 c = search (rules, tests)

pub returns-else-k-2 : goal.returns-else-k-2
unfolding next_start starts_left
returns-else-k-2 c = search (rules, tests)
