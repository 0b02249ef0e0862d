-- `list_run::unsound_call` meets its contract.
use Rattle.list_run.proofs.unsound_call.Goals as goal

pub returns : goal.returns
returns c = rw c.refuse-r.ensures at c.settle.ensures
