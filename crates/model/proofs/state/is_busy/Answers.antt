-- `model::state::is_busy` meets its contract.
use borrow.Author.Rules.{rules}
use Rattle.unit.proofs.Tests.{tests}
use Rattle.device.specs.Model.{is_busy}
use Rattle.model.proofs.state.is_busy.Goals as goal

pub returns-then-kind_busy : goal.returns-then-kind_busy
unfolding is_busy
returns-then-kind_busy c = search (rules, tests)

pub returns-else-kind_busy : goal.returns-else-kind_busy
unfolding is_busy
returns-else-kind_busy c = search (rules, tests)
