-- `item_calls::ticks::single` meets its contract.
-- Assumes nothing.
use Rattle.item_calls.specs.Lines.{single_line, told, moved}
use Rattle.item_state.specs.Log.{called, added}
use Rattle.item_calls.proofs.ticks.single.Goals as goal

pub returns : goal.returns
unfolding single_line told moved called added
returns c = rw (← c.tick-reply.ensures.reply, ← c.more.ensures, ← c.put_single-used.ensures.next, ← c.put_single-used.ensures.bytes, ← c.count_call.ensures)
