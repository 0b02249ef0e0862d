-- `setup_frames::run::differs_before` meets its contract.
use borrow.Author.Tests.{eq-eqb, ne_eqb}
use Rattle.setup_frames.specs.Frames.{differs_before}
use Rattle.setup_frames.proofs.run.differs_before.Goals as goal

pub returns-then-i-ne0 : goal.returns-then-i-ne0
unfolding differs_before
returns-then-i-ne0 c = simp (← c.differs.ensures, ne_eqb _ _ c.if-i-ne0.true)

pub returns-else-i-ne0 : goal.returns-else-i-ne0
unfolding differs_before
returns-else-i-ne0 c = simp (eq-eqb _ _ c.if-i-ne0.false)
