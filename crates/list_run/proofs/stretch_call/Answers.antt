-- `list_run::stretch_call` meets its contract.
use Rattle.list_run.proofs.Laws.{told_of}
use Rattle.list_run.proofs.stretch_call.Goals as goal

pub returns : goal.returns
returns c =
    let k = c.settle.ensures in told_of _ _ _ _ _ _ _ c.sound_stretch-r.ensures k.0 k.1
