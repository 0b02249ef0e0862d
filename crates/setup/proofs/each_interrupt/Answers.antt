-- `setup::each_interrupt` meets its contract.
use Rattle.setup.specs.Setup.{each_interrupt}
use borrow.Author.Rules.{rules}
use Rattle.setup.proofs.each_interrupt.Goals as goal

pub returns : goal.returns
unfolding each_interrupt
returns c = simp (← c.word.ensures)
