-- `list_run::tick_call` meets its contract.
use Rattle.list_run.proofs.Laws.{told_of}
use Rattle.list_run.proofs.tick_call.Goals as goal

pub returns : goal.returns
returns c =
    let k = c.settle.ensures in told_of _ _ _ _ _ _ _ c.tick_reply-r.ensures k.0 k.1
