-- `session::flush::written_to` meets its contract.
-- Assumes nothing.
use borrow.Author.Tests.{eq-eqb, ne_eqb}
use Rattle.session.specs.Flush.{written_to}
use Rattle.session.proofs.flush.written_to.Goals as goal

pub returns-then-counts-eq0 : goal.returns-then-counts-eq0
unfolding written_to
returns-then-counts-eq0 c = rw (eq-eqb _ 0 c.if-counts-eq0.true)

pub returns-then-is_long : goal.returns-then-is_long
unfolding written_to
returns-then-is_long c = rw (ne_eqb _ 0 c.if-counts-eq0.false, ← c.is_long.ensures, c.if-is_long.true)

pub returns : goal.returns
unfolding written_to
returns c = rw (ne_eqb _ 0 c.if-counts-eq0.false, ← c.is_long.ensures, c.if-is_long.false)
