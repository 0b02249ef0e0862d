-- `item_calls::transaction::bus_out` meets its contract.
-- Assumes nothing.
use mathlib.Core.Path.{sym, ap, ◌∙◌}
use lib.Seq.{length-take-le}
use Rattle.numeral.specs.Print.{low_bytes}
use Rattle.item_calls.specs.Lines.{bus_line, transacted}
use Rattle.item_state.specs.Log.{called}
use Rattle.item_calls.proofs.Steps.{frame-of, bus-fits, take-replicate}
use Rattle.item_calls.proofs.transaction.bus_out.Goals as goal

pub slice_bounds-out-end : goal.slice_bounds-out-end
slice_bounds-out-end c = sym (length-take-le _ _ c.requires.1)

pub returns : goal.returns
unfolding bus_line transacted called
returns c = rw (← (c.first_bytes.ensures ∙ frame-of (rw c.first_words.ensures (bus-fits c.args.bytes c.args.numbers.now c.requires.0)) c.put_low_bytes-n.ensures ∙ ap low_bytes c.first_words.ensures), ← take-replicate c.args.size 200 238 c.requires.1, ← c.transaction-reply.ensures.replied.reply, ← c.transaction-reply.ensures.output, ← c.transaction-reply.ensures.memory, ← c.put_bus-used.ensures.next, ← c.put_bus-used.ensures.bytes, ← c.count_call.ensures, ← c.start_moment.ensures)
