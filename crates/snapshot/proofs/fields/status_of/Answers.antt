-- `snapshot::fields::status_of` meets its contract.
use Rattle.layout.specs.Layout.{status_of}
use Rattle.snapshot.proofs.fields.status_of.Goals as goal

pub returns : goal.returns
unfolding status_of
returns c = cc
