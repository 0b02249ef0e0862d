-- `item_state::counts::count_call` meets its contract.
-- Assumes nothing.
use Rattle.item_state.proofs.counts.count_call.Goals as goal

pub returns : goal.returns
returns c = rw (← c.refusals.ensures) c.count.ensures
