-- `model::state::kind_busy` meets its contract.
use borrow.Author.Rules.{rules}
use Rattle.unit.proofs.Tests.{tests}
use Rattle.device.specs.Model.{kind_busy}
use Rattle.model.proofs.state.kind_busy.Goals as goal

pub returns-then-is_awaited : goal.returns-then-is_awaited
unfolding kind_busy
returns-then-is_awaited c = search (rules, tests)

pub returns-else-is_awaited : goal.returns-else-is_awaited
unfolding kind_busy
returns-else-is_awaited c = search (rules, tests)
