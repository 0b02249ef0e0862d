-- `setup_frames::run::starts` meets its contract.
use Rattle.setup_frames.specs.Frames.{starts}
use Rattle.setup_frames.proofs.run.starts.Goals as goal

pub returns-then-not-differs_before : goal.returns-then-not-differs_before
unfolding starts
returns-then-not-differs_before c = simp (← c.differs_before.ensures, c.if-not-differs_before.true, ← c.differs.ensures)

pub returns-else-not-differs_before : goal.returns-else-not-differs_before
unfolding starts
returns-else-not-differs_before c = simp (← c.differs_before.ensures, c.if-not-differs_before.false)
