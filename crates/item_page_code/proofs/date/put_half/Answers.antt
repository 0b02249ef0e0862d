-- `item_page_code::date::put_half` meets its contract. Assumes nothing.
use borrow.Author.Tests.{eq-eqb, ne_eqb}
use Rattle.numeral.specs.Ascii.{ascii}
use Rattle.text.proofs.Putting.{puts, puts_none}
use Rattle.item_page.specs.Registers.{half_day}
use borrow.Author.Rules.{rules}
use Rattle.item_page_code.proofs.date.put_half.Goals as goal

pub returns-then-w-eq1 : goal.returns-then-w-eq1
unfolding ascii half_day
returns-then-w-eq1 c = rw (← c.twelve_in.ensures, c.if-twelve_in.true, eq-eqb _ _ c.if-w-eq1.true) (puts c.put_text.ensures)

pub returns-then-twelve_in : goal.returns-then-twelve_in
unfolding ascii half_day
returns-then-twelve_in c = rw (← c.twelve_in.ensures, c.if-twelve_in.true, ne_eqb _ _ c.if-w-eq1.false) (puts c.put_text-then-twelve_in.ensures)

pub returns : goal.returns
unfolding half_day
returns c = rw (← c.twelve_in.ensures, c.if-twelve_in.false) (puts_none _ _)
