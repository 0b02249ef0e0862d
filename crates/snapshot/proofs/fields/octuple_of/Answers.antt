-- `snapshot::fields::octuple_of` meets its contract.
use Rattle.layout.specs.Layout.{octuple}
use mathlib.Core.Path.{refl}
use Rattle.snapshot.proofs.fields.octuple_of.Goals as goal

pub returns : goal.returns
unfolding octuple
returns c = (refl, c.well_formed.1.0.1.1.1.0.1.0.1)
