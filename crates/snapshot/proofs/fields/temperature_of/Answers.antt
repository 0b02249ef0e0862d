-- `snapshot::fields::temperature_of` meets its contract.
use Rattle.layout.specs.Layout.{temperature_of}
use mathlib.Core.Path.{refl}
use Rattle.snapshot.proofs.fields.temperature_of.Goals as goal

pub returns : goal.returns
unfolding temperature_of
returns c = refl
