-- `checker::close::shorten` meets its contract.
-- Assumes nothing.
use borrow.Author.Tests.{eq-eqb, ne_eqb, le-leb, lt-leb}
use Rattle.item_checks.specs.Close.{kept_briefly}
use Rattle.checker.proofs.close.shorten.Goals as goal

pub returns-then-counts-eq0 : goal.returns-then-counts-eq0
unfolding kept_briefly
returns-then-counts-eq0 c = rw (eq-eqb _ 0 c.if-counts-eq0.true)

pub returns-then-counts-more : goal.returns-then-counts-more
unfolding kept_briefly
returns-then-counts-more c = rw (ne_eqb _ 0 c.if-counts-eq0.false, ← c.more.ensures, le-leb _ _ c.if-counts-more.true)

pub returns : goal.returns
unfolding kept_briefly
returns c = rw (ne_eqb _ 0 c.if-counts-eq0.false, ← c.more.ensures, lt-leb _ _ c.if-counts-more.false) c.cut_off.ensures
