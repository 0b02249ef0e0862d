-- `setup::temperature_period` meets its contract.
use Rattle.unit.proofs.Tests.{tests}
use Rattle.setup.specs.Setup.{temperature_period}
use borrow.Author.Rules.{rules}
use Rattle.setup.proofs.temperature_period.Goals as goal

pub returns : goal.returns
unfolding temperature_period
returns c = search (rules, tests, ← c.word.ensures)
