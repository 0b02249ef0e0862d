-- `setup::temperature_count` meets its contract.
use Rattle.unit.proofs.Tests.{tests}
use Rattle.setup.specs.Setup.{temperature_count}
use borrow.Author.Rules.{rules}
use Rattle.setup.proofs.temperature_count.Goals as goal

pub returns : goal.returns
unfolding temperature_count
returns c = search (rules, tests)
