-- `setup_frames::run::differs` meets its contract.
use mathlib.Core.Bool.{Bool, true, false, not}
use mathlib.Core.Path.{◌≡◌, refl}
use Rattle.unit.specs.Choice.{negate}
use Rattle.setup_frames.specs.Frames.{differs}
use Rattle.setup_frames.proofs.run.differs.Goals as goal

negated : (t : Bool) → not t ≡ negate t
negated true = refl
negated false = refl

pub returns : goal.returns
unfolding differs
returns c = rw c.factory.ensures (negated _)
