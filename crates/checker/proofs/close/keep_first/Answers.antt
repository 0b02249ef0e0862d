-- `checker::close::keep_first` meets its contract.
-- Assumes nothing.
use borrow.Author.Tests.{eq-eqb, ne_eqb}
use Rattle.item_checks.specs.Close.{tail, shortened}
use Rattle.checker.proofs.close.keep_first.Goals as goal

pub returns-then-counts-eq0 : goal.returns-then-counts-eq0
unfolding shortened tail
returns-then-counts-eq0 c = rw (eq-eqb _ 0 c.if-counts-eq0.true, ← c.first_end-end.ensures, ← c.put_end.ensures.next, ← c.put_end.ensures.bytes)

pub returns : goal.returns
unfolding shortened tail
returns c = rw (ne_eqb _ 0 c.if-counts-eq0.false, ← c.first_bytes.ensures, ← c.bytes_from-name.ensures, ← c.first_end-end.ensures, ← c.put_name.ensures.next, ← c.put_name.ensures.bytes)
