-- `snapshot::fields::clock_of` meets its contract.
use Rattle.layout.specs.Layout.{clock_of}
use Rattle.snapshot.proofs.fields.clock_of.Goals as goal

pub returns : goal.returns
unfolding clock_of
returns c = cc
