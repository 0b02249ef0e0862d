-- `item_analysis::table::put_reading` meets its contract.
-- Assumes nothing.
use Rattle.item_analysis.specs.Lines.{degrees_told}
use Rattle.item_state.specs.Log.{called}
use Rattle.item_analysis.proofs.table.put_reading.Goals as goal

pub returns-in-Ok : goal.returns-in-Ok
unfolding degrees_told called
returns-in-Ok c = rw (c.in-Ok.is, ← c.put_degrees-used.ensures.next, ← c.put_degrees-used.ensures.bytes, ← c.count.ensures)

pub returns-in-Err : goal.returns-in-Err
unfolding degrees_told called
returns-in-Err c = rw (c.in-Err.is, ← c.put_degrees_refused-used.ensures.next, ← c.put_degrees_refused-used.ensures.bytes, ← c.count-in-Err.ensures)
