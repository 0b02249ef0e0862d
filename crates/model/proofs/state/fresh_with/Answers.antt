-- `model::state::fresh_with` meets its contract.
use borrow.Author.Rules.{rules}
use Rattle.unit.proofs.Tests.{tests}
use Rattle.device.specs.Model.{fresh_with}
use Rattle.model.proofs.state.fresh_with.Goals as goal

pub returns : goal.returns
unfolding fresh_with
returns c = search (rules, tests)
