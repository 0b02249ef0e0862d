-- `item_calls::ticks::begin_at` meets its contract.
-- Assumes nothing.
use borrow.Author.Tests.{eq-eqb, ne_eqb}
use Rattle.item_calls.specs.Lines.{at_begun, unless_under_way, ticks_ahead}
use Rattle.item_state.specs.Log.{called}
use Rattle.item_calls.proofs.ticks.begin_at.Goals as goal

pub returns-then-counts-ne0 : goal.returns-then-counts-ne0
unfolding at_begun unless_under_way
returns-then-counts-ne0 c = rw (ne_eqb _ 0 c.if-counts-ne0.true)

pub returns : goal.returns
unfolding at_begun unless_under_way ticks_ahead called
returns c = rw (eq-eqb _ 0 c.if-counts-ne0.false, ← c.saturating_sub-left.ensures, ← c.put_at-start.ensures.next, ← c.put_at-start.ensures.bytes, c.count.ensures)
