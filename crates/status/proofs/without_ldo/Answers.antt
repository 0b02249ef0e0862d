-- `status::without_ldo` meets its contract.
use borrow.Author.Rules.{rules}
use Rattle.unit.proofs.Tests.{tests}
use Rattle.device.specs.Status.{without_ldo}
use Rattle.status.proofs.without_ldo.Goals as goal

pub returns : goal.returns
unfolding without_ldo
returns c = search (rules, tests)
