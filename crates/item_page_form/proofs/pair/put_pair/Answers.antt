-- `item_page_form::pair::put_pair` meets its contract. Assumes nothing.
use Rattle.numeral.specs.Ascii.{ascii}
use Rattle.text.proofs.Putting.{puts_first}
use Rattle.item_page_form.specs.OwnForm.{pair_then}
use Rattle.item_page_form.proofs.pair.put_pair.Goals as goal

pub returns : goal.returns
unfolding ascii pair_then
returns c = record { on = λ rest s k after. puts_first c.put_hex-a.ensures (puts_first c.put_text-b.ensures (puts_first c.put_hex-c.ensures (puts_first c.put_text.ensures after))) }
