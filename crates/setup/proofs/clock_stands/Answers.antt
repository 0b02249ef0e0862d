-- `setup::clock_stands` meets its contract.
use Rattle.setup.specs.Setup.{clock_stands}
use borrow.Author.Rules.{rules}
use Rattle.setup.proofs.clock_stands.Goals as goal

pub returns : goal.returns
unfolding clock_stands
returns c = simp (← c.word.ensures)
