-- `item_state::counts::count` meets its contract.
-- Assumes nothing.
use Rattle.item_state.specs.Log.{added, call_counted, counted}
use Rattle.item_state.proofs.counts.count.Goals as goal

pub returns : goal.returns
unfolding counted call_counted added
returns c = rw (c.more-2.ensures, c.more.ensures)
