-- `status::init_bit` meets its contract.
use borrow.Author.Rules.{rules}
use Rattle.unit.proofs.Tests.{tests}
use Rattle.device.specs.Status.{no_bits}
use Rattle.device.specs.Status.{init_bit}
use Rattle.status.proofs.init_bit.Goals as goal

pub returns : goal.returns
unfolding init_bit no_bits
returns c = search (rules, tests)
