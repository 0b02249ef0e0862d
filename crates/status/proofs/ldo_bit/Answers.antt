-- `status::ldo_bit` meets its contract.
use borrow.Author.Rules.{rules}
use Rattle.unit.proofs.Tests.{tests}
use Rattle.device.specs.Status.{no_bits}
use Rattle.device.specs.Status.{ldo_bit}
use Rattle.status.proofs.ldo_bit.Goals as goal

pub returns : goal.returns
unfolding ldo_bit no_bits
returns c = search (rules, tests)
