-- `show::state::put_supply` meets its contract.
-- Assumes nothing.
use borrow.Author.Rules.{rules}
use borrow.Author.Tests.{eq-eqb, ne_eqb}
use Rattle.numeral.specs.Ascii.{ascii}
use Rattle.page.specs.Results.{supply_row}
use Rattle.show.proofs.state.put_supply.Goals as goal

pub returns-then-on-eq0 : goal.returns-then-on-eq0
unfolding ascii supply_row
returns-then-on-eq0 c = rw (eq-eqb _ _ c.if-on-eq0.true) c.put_line.ensures

pub returns : goal.returns
unfolding ascii supply_row
returns c = rw (ne_eqb _ _ c.if-on-eq0.false) c.put_line-2.ensures
