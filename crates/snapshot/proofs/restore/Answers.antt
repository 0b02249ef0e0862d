-- `snapshot::restore` meets its contract.
use Rattle.layout.specs.Layout.{restored}
use Rattle.snapshot.proofs.restore.Goals as goal

pub returns : goal.returns
unfolding restored
returns c =
    rw (← c.octuples-o.ensures, ← c.quadruples-q.ensures, ← c.doubles-d.ensures) c.model_of.ensures
