-- `item_page_form::pair::put_result` meets its contract. Assumes nothing.
use borrow.Author.Tests.{eq-eqb, ne_eqb}
use Rattle.numeral.specs.Ascii.{ascii}
use Rattle.text.proofs.Putting.{puts}
use Rattle.item_page.specs.Registers.{result_text}
use Rattle.item_page_form.proofs.pair.put_result.Goals as goal

pub returns-then-q-eq4294967295 : goal.returns-then-q-eq4294967295
unfolding ascii result_text
returns-then-q-eq4294967295 c = rw (eq-eqb _ _ c.if-q-eq4294967295.true) (puts c.put_text.ensures)

pub returns : goal.returns
unfolding result_text
returns c = rw (ne_eqb _ _ c.if-q-eq4294967295.false) c.put_time.ensures
