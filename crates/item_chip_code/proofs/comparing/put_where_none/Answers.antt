-- `item_chip_code::comparing::put_where_none` meets its contract. Assumes nothing.
use borrow.Author.Tests.{eq-eqb, ne_eqb}
use Rattle.text.specs.Text.{text_where}
use Rattle.text.proofs.Putting.{puts, puts_none}
use Rattle.item_chip_code.proofs.comparing.put_where_none.Goals as goal

pub returns-then-differ-eq0 : goal.returns-then-differ-eq0
unfolding text_where
returns-then-differ-eq0 c = rw (eq-eqb _ 0 c.if-differ-eq0.true) (puts c.put_text.ensures)

pub returns : goal.returns
unfolding text_where
returns c = rw (ne_eqb _ 0 c.if-differ-eq0.false) (puts_none _ _)
