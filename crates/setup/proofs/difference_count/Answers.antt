-- `setup::difference_count` meets its contract.
use Rattle.unit.proofs.Tests.{tests}
use Rattle.setup.specs.Setup.{difference_count}
use borrow.Author.Rules.{rules}
use Rattle.setup.proofs.difference_count.Goals as goal

pub returns : goal.returns
unfolding difference_count
returns c = search (rules, tests)
