-- `item_calls::ticks::tick` meets its contract.
-- Assumes nothing.
use borrow.Author.Tests.{eq-eqb, ne_eqb}
use Rattle.item_calls.specs.Lines.{tick_line}
use Rattle.item_calls.proofs.ticks.tick.Goals as goal

pub returns-then-n-eq1 : goal.returns-then-n-eq1
unfolding tick_line
returns-then-n-eq1 c = rw (eq-eqb _ 1 c.if-n-eq1.true) c.single.ensures

pub returns : goal.returns
unfolding tick_line
returns c = rw (ne_eqb _ 1 c.if-n-eq1.false, ← c.begin_ticks.ensures) c.run.ensures
