-- `delivery::temperature_status` meets its contract.
use borrow.Author.Rules.{rules}
use Rattle.unit.proofs.Tests.{tests}
use Rattle.device.specs.Delivery.{temperature_status}
use Rattle.delivery.proofs.temperature_status.Goals as goal

pub returns : goal.returns
unfolding temperature_status
returns c = search (rules, tests)
