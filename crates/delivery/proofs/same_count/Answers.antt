-- `delivery::same_count` meets its contract.
use borrow.Author.Rules.{rules}
use Rattle.unit.proofs.Tests.{tests}
use Rattle.device.specs.Delivery.{same_count}
use Rattle.delivery.proofs.same_count.Goals as goal

pub returns : goal.returns
unfolding same_count
returns c = search (rules, tests)
