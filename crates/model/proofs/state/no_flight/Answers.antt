-- `model::state::no_flight` meets its contract.
use borrow.Author.Rules.{rules}
use Rattle.unit.proofs.Tests.{tests}
use Rattle.device.specs.Model.{no_flight}
use Rattle.model.proofs.state.no_flight.Goals as goal

pub returns : goal.returns
unfolding no_flight
returns c = search (rules, tests)
