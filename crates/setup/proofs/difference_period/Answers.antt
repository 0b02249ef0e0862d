-- `setup::difference_period` meets its contract.
use Rattle.unit.proofs.Tests.{tests}
use Rattle.setup.specs.Setup.{difference_period}
use borrow.Author.Rules.{rules}
use Rattle.setup.proofs.difference_period.Goals as goal

pub returns : goal.returns
unfolding difference_period
returns c = search (rules, tests, ← c.word.ensures)
