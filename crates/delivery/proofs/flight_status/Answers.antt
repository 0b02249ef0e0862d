-- `delivery::flight_status` meets its contract.
use borrow.Author.Rules.{rules}
use Rattle.unit.proofs.Tests.{tests}
use Rattle.device.specs.Delivery.{flight_status}
use Rattle.delivery.proofs.flight_status.Goals as goal

pub returns : goal.returns
unfolding flight_status
returns c = search (rules, tests)
