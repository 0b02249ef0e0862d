-- `snapshot::no_model` meets its contract.
use Rattle.layout.specs.Layout.{nothing}
use Rattle.snapshot.proofs.no_model.Goals as goal

pub returns : goal.returns
unfolding nothing
returns c = c.restore.ensures
