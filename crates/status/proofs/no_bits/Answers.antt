-- `status::no_bits` meets its contract.
use borrow.Author.Rules.{rules}
use Rattle.unit.proofs.Tests.{tests}
use Rattle.device.specs.Status.{no_bits}
use Rattle.status.proofs.no_bits.Goals as goal

pub returns : goal.returns
unfolding no_bits
returns c = search (rules, tests)
