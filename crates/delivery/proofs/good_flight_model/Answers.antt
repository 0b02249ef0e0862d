-- `delivery::good_flight_model` meets its contract.
use borrow.Author.Rules.{rules}
use Rattle.unit.proofs.Tests.{tests}
use Rattle.device.specs.Delivery.{good_flight_model}
use Rattle.delivery.proofs.good_flight_model.Goals as goal

pub returns : goal.returns
unfolding good_flight_model
returns c = search (rules, tests)
