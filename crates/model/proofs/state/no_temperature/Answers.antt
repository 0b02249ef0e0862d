-- `model::state::no_temperature` meets its contract.
use borrow.Author.Rules.{rules}
use Rattle.unit.proofs.Tests.{tests}
use Rattle.device.specs.Model.{no_temperature}
use Rattle.model.proofs.state.no_temperature.Goals as goal

pub returns : goal.returns
unfolding no_temperature
returns c = search (rules, tests)
