-- `phrase::ticks::sooner` meets its contract.
-- Assumes nothing.
use Rattle.std.proofs.Common.{le-ltb, lt-ltb, le-leb}
use borrow.Author.Tests.{lt-leb}
use Rattle.wording.specs.Wording.{sooner}
use Rattle.phrase.proofs.ticks.sooner.Goals as goal

pub returns-then-named-tick : goal.returns-then-named-tick
unfolding sooner
returns-then-named-tick c = rw (le-leb _ _ c.if-named-tick.true)

pub returns-then-named-best : goal.returns-then-named-best
unfolding sooner
returns-then-named-best c = rw (lt-leb _ _ c.if-named-tick.false, lt-ltb _ _ c.if-named-best.true)

pub returns-else-named-best : goal.returns-else-named-best
unfolding sooner
returns-else-named-best c = rw (lt-leb _ _ c.if-named-tick.false, le-ltb _ _ c.if-named-best.false)
