-- `checker::close::begins` meets its contract.
-- Assumes nothing.
use borrow.Author.Tests.{eq-eqb, ne_eqb}
use Rattle.item_checks.specs.Close.{begins_with}
use Rattle.checker.proofs.close.begins.Goals as goal

pub returns-then-wanted-eq0 : goal.returns-then-wanted-eq0
unfolding begins_with
returns-then-wanted-eq0 c = rw (eq-eqb _ 0 c.if-wanted-eq0.true)

pub returns : goal.returns
unfolding begins_with
returns c = rw (ne_eqb _ 0 c.if-wanted-eq0.false, ← c.place_of.ensures, ← c.bytes_from.ensures, ← c.bytes_from-2.ensures, ← c.starts.ensures)
