-- `item_words_code::refusals::put_refusal` meets its contract.
-- Assumes nothing.
use Rattle.numeral.specs.Ascii.{ascii}
use Rattle.item_page.specs.Row.{refusal}
use Rattle.text.proofs.Putting.{puts, puts-last}
use Rattle.item_words_code.proofs.refusals.put_refusal.Goals as goal

pub returns : goal.returns
unfolding ascii refusal
returns c = puts-last (puts-last (puts-last (puts c.put_text-a.ensures) (rw (c.from.ensures, c.number.ensures.0) at c.put_decimal-b.ensures)) c.put_text-c.ensures) (rw c.word.ensures at c.put_text.ensures)
