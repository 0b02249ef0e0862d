-- `checker::close::close` meets its contract.
-- Assumes nothing.
use borrow.Author.Tests.{eq-eqb, ne_eqb}
use Rattle.item_checks.specs.Close.{closed}
use Rattle.checker.proofs.close.close.Goals as goal

pub returns-then-counts-eq0 : goal.returns-then-counts-eq0
unfolding closed
returns-then-counts-eq0 c = rw (← c.judged-announced.ensures.0, ← c.judged-announced.ensures.1, ← c.count_unannounced.ensures, eq-eqb _ 0 c.if-counts-eq0.true)

pub returns : goal.returns
unfolding closed
returns c = rw (← c.judged-announced.ensures.0, ← c.judged-announced.ensures.1, ← c.count_unannounced.ensures, ne_eqb _ 0 c.if-counts-eq0.false) c.keep_trouble.ensures
