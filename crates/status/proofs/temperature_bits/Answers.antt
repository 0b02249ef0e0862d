-- `status::temperature_bits` meets its contract.
use borrow.Author.Rules.{rules}
use Rattle.unit.proofs.Tests.{tests}
use Rattle.device.specs.Status.{no_bits}
use Rattle.device.specs.Status.{temperature_bits}
use Rattle.status.proofs.temperature_bits.Goals as goal

pub returns-then-not-settles : goal.returns-then-not-settles
unfolding temperature_bits no_bits
returns-then-not-settles c = search (rules, tests)

pub returns : goal.returns
unfolding temperature_bits no_bits
returns c = search (rules, tests)
