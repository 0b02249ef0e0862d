-- `session::flush::is_long` meets its contract.
-- Assumes nothing.
use borrow.Author.Tests.{eq-eqb, ne_eqb}
use Rattle.session.specs.Flush.{is_long}
use Rattle.session.proofs.flush.is_long.Goals as goal

pub returns-then-counts-eq0 : goal.returns-then-counts-eq0
unfolding is_long
returns-then-counts-eq0 c = rw (eq-eqb _ 0 c.if-counts-eq0.true, ← c.more.ensures)

pub returns : goal.returns
unfolding is_long
returns c = rw (ne_eqb _ 0 c.if-counts-eq0.false)
