-- `checker::close::keep_trouble` meets its contract.
-- Assumes nothing.
use borrow.Author.Tests.{eq-eqb, ne_eqb}
use Rattle.item_checks.specs.Close.{looked}
use Rattle.checker.proofs.close.keep_trouble.Goals as goal

pub returns-then-trouble-counts : goal.returns-then-trouble-counts
unfolding looked
returns-then-trouble-counts c = rw (← c.trouble.ensures, eq-eqb _ _ c.if-trouble-counts.true)

pub returns : goal.returns
unfolding looked
returns c = rw (← c.trouble.ensures, ne_eqb _ _ c.if-trouble-counts.false) c.keep_first.ensures
