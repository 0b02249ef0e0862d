-- `list_run::frame_call` meets its contract.
use Rattle.list_run.proofs.Laws.{told_of}
use Rattle.list_run.proofs.frame_call.Goals as goal

pub returns : goal.returns
returns c =
    let t = c.transact-r.ensures in
    let k = c.settle.ensures in
    (told_of _ _ _ _ _ _ _ t.0 k.0 k.1, t.1, t.2)
