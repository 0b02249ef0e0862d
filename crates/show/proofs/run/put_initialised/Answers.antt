-- `show::run::put_initialised` meets its contract.
-- Assumes nothing.
use borrow.Author.Rules.{rules}
use borrow.Author.Tests.{eq-eqb, ne_eqb}
use Rattle.numeral.specs.Ascii.{ascii}
use Rattle.page.specs.Run.{initialised_row}
use Rattle.show.proofs.run.put_initialised.Goals as goal

pub returns-then-told-eq0 : goal.returns-then-told-eq0
unfolding ascii initialised_row
returns-then-told-eq0 c = rw (eq-eqb _ _ c.if-told-eq0.true) c.put_line.ensures

pub returns : goal.returns
unfolding ascii initialised_row
returns c = rw (ne_eqb _ _ c.if-told-eq0.false) c.put_line-2.ensures
