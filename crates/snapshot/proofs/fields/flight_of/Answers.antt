-- `snapshot::fields::flight_of` meets its contract.
use Rattle.layout.specs.Layout.{flight_of}
use mathlib.Core.Path.{refl}
use Rattle.snapshot.proofs.fields.flight_of.Goals as goal

pub returns : goal.returns
unfolding flight_of
returns c = refl
