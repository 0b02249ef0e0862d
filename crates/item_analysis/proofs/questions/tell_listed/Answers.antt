-- `item_analysis::questions::tell_listed` meets its contract.
-- Assumes nothing.
use Rattle.item_analysis.specs.Lines.{listing_told}
use Rattle.item_state.specs.Log.{called}
use Rattle.item_analysis.proofs.questions.tell_listed.Goals as goal

pub returns-in-Ok : goal.returns-in-Ok
unfolding listing_told
returns-in-Ok c = rw (c.in-Ok.is, ← c.more.ensures, ← c.count.ensures)

pub returns-in-Err : goal.returns-in-Err
unfolding listing_told called
returns-in-Err c = rw (c.in-Err.is, ← c.put_listing_refused-used.ensures.next, ← c.put_listing_refused-used.ensures.bytes, ← c.count-in-Err.ensures)
