-- `setup::interrupt_enabled` meets its contract.
use Rattle.setup.specs.Setup.{interrupt_enabled}
use borrow.Author.Rules.{rules}
use Rattle.setup.proofs.interrupt_enabled.Goals as goal

pub returns : goal.returns
unfolding interrupt_enabled
returns c = simp (← c.word.ensures)
