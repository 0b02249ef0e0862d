-- `delivery::flight_miscounted` meets its contract.
use borrow.Author.Rules.{rules}
use Rattle.unit.proofs.Tests.{tests}
use Rattle.device.specs.Delivery.{flight_miscounted}
use Rattle.delivery.proofs.flight_miscounted.Goals as goal

pub returns : goal.returns
unfolding flight_miscounted
returns c = search (rules, tests)
