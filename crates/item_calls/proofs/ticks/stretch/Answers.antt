-- `item_calls::ticks::stretch` meets its contract.
-- Assumes nothing.
use Rattle.item_calls.specs.Lines.{stretch_line, told}
use Rattle.item_state.specs.Log.{called}
use Rattle.item_calls.proofs.ticks.stretch.Goals as goal

pub returns : goal.returns
unfolding stretch_line told called
returns c = rw (← c.stretch-reply.ensures.reply, ← c.move_by.ensures, ← c.put_stretch-used.ensures.next, ← c.put_stretch-used.ensures.bytes, ← c.count_call.ensures)
