-- `snapshot::fields::single_of` meets its contract.
use mathlib.Core.Path.{refl}
use Rattle.layout.specs.Layout.{single}
use Rattle.snapshot.proofs.fields.single_of.Goals as goal

pub returns : goal.returns
unfolding single
returns c = refl
