-- `item_page_form::pair::put_port` meets its contract. Assumes nothing.
use borrow.Author.Tests.{eq-eqb, ne_eqb}
use Rattle.numeral.specs.Ascii.{ascii}
use Rattle.text.proofs.Putting.{puts}
use Rattle.item_page.specs.Registers.{port_text}
use Rattle.item_page_form.proofs.pair.put_port.Goals as goal

pub returns-then-q-eq0 : goal.returns-then-q-eq0
unfolding ascii port_text
returns-then-q-eq0 c = rw (eq-eqb _ _ c.if-q-eq0.true) (puts c.put_text.ensures)

pub returns : goal.returns
unfolding port_text
returns c = rw (ne_eqb _ _ c.if-q-eq0.false) c.put_result.ensures
