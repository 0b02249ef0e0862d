-- `item_page_form::piece::put_where` meets its contract. Assumes nothing.
use Rattle.text.specs.Text.{text_where}
use Rattle.text.proofs.Putting.{puts, puts_none}
use Rattle.item_page_form.proofs.piece.put_where.Goals as goal

pub returns-then-holds : goal.returns-then-holds
unfolding text_where
returns-then-holds c = rw c.if-holds.true (puts c.put_text.ensures)

pub returns : goal.returns
unfolding text_where
returns c = rw c.if-holds.false (puts_none _ _)
