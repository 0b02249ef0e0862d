-- `item_page_code::fields::put_divider` meets its contract. Assumes nothing.
use borrow.Author.Tests.{eq-eqb, ne_eqb}
use Rattle.numeral.specs.Ascii.{ascii}
use Rattle.text.proofs.Putting.{puts, puts_first}
use Rattle.item_page.specs.Registers.{divider}
use borrow.Author.Rules.{rules}
use Rattle.item_page_code.proofs.fields.put_divider.Goals as goal

pub returns-then-dpl-eq0 : goal.returns-then-dpl-eq0
unfolding ascii divider
returns-then-dpl-eq0 c = rw (eq-eqb _ _ c.if-dpl-eq0.true) (puts c.put_text.ensures)

pub returns : goal.returns
unfolding ascii divider
returns c = rw (ne_eqb _ _ c.if-dpl-eq0.false) (puts_first c.put_text-a.ensures (puts c.put_decimal.ensures))
