-- `setup::factory` meets its contract.
use borrow.Author.Rules.{rules}
use Rattle.unit.proofs.Tests.{tests}
use Rattle.setup.specs.Setup.{factory}
use Rattle.setup.proofs.factory.Goals as goal

pub returns : goal.returns
unfolding factory
returns c = search (rules, tests)
