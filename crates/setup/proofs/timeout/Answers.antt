-- `setup::timeout` meets its contract.
use Rattle.unit.proofs.Tests.{tests}
use Rattle.setup.specs.Setup.{timeout}
use borrow.Author.Rules.{rules}
use Rattle.setup.proofs.timeout.Goals as goal

pub returns : goal.returns
unfolding timeout
returns c = search (rules, tests)
