-- `setup::temperature_unset` meets its contract.
use Rattle.setup.specs.Setup.{temperature_unset}
use borrow.Author.Rules.{rules}
use Rattle.setup.proofs.temperature_unset.Goals as goal

pub returns : goal.returns
unfolding temperature_unset
returns c = simp (← c.word.ensures)
