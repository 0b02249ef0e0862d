-- `setup::event_continuous` meets its contract.
use Rattle.setup.specs.Setup.{event_continuous}
use borrow.Author.Rules.{rules}
use Rattle.setup.proofs.event_continuous.Goals as goal

pub returns : goal.returns
unfolding event_continuous
returns c = simp (← c.word.ensures)
