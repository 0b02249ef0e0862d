-- `item_calls::ticks::begin_ticks` meets its contract.
-- Assumes nothing.
use borrow.Author.Tests.{eq-eqb, ne_eqb}
use Rattle.item_calls.specs.Lines.{ticks_begun, unless_under_way, ticks_ahead, moved}
use Rattle.item_state.specs.Log.{added, called}
use Rattle.item_calls.proofs.ticks.begin_ticks.Goals as goal

pub returns-then-counts-ne0 : goal.returns-then-counts-ne0
unfolding ticks_begun unless_under_way
returns-then-counts-ne0 c = rw (ne_eqb _ 0 c.if-counts-ne0.true)

pub returns : goal.returns
unfolding ticks_begun unless_under_way ticks_ahead moved added called
returns c = rw (eq-eqb _ 0 c.if-counts-ne0.false, ← c.more.ensures, ← c.put_tick-start.ensures.next, ← c.put_tick-start.ensures.bytes, c.count.ensures)
