-- `model::state::sum_fits` meets its contract.
use borrow.Author.Rules.{rules}
use Rattle.unit.proofs.Tests.{tests}
use Rattle.device.specs.Model.{sum_fits}
use Rattle.model.proofs.state.sum_fits.Goals as goal

pub returns : goal.returns
unfolding sum_fits
returns c = search (rules, tests)
