-- `session::flush::count_written` meets its contract.
-- Assumes nothing.
use borrow.Author.Tests.{eq-eqb, ne_eqb}
use Rattle.session.specs.Flush.{after_writing}
use Rattle.session.proofs.flush.count_written.Goals as goal

pub returns-then-counts-eq0 : goal.returns-then-counts-eq0
unfolding after_writing
returns-then-counts-eq0 c = rw (eq-eqb _ 0 c.if-counts-eq0.true)

pub returns-then-is_long : goal.returns-then-is_long
unfolding after_writing
returns-then-is_long c = rw (ne_eqb _ 0 c.if-counts-eq0.false, ← c.is_long.ensures, c.if-is_long.true, ← c.kept_to-kept.ensures)

pub returns-else-is_long : goal.returns-else-is_long
unfolding after_writing
returns-else-is_long c = rw (ne_eqb _ 0 c.if-counts-eq0.false, ← c.is_long.ensures, c.if-is_long.false)
