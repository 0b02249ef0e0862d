-- `item_page_form::piece::put_plural` meets its contract. Assumes nothing.
use Rattle.numeral.specs.Ascii.{ascii}
use Rattle.text.proofs.Putting.{puts_then, puts_first}
use Rattle.item_page_form.specs.OwnForm.{plural_then}
use Rattle.item_page_form.proofs.piece.put_plural.Goals as goal

pub returns : goal.returns
unfolding ascii plural_then
returns c = record { on = λ rest s k after. puts_first (rw c.from.ensures at c.put_decimal-a.ensures) (puts_first c.put_text-b.ensures (puts_then c.put_where.ensures after)) }
