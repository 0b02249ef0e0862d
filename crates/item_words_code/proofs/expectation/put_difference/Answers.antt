-- `item_words_code::expectation::put_difference` meets its contract.
-- Assumes nothing.
use Rattle.numeral.specs.Ascii.{ascii}
use Rattle.text.proofs.Putting.{puts, puts-last}
use Rattle.item_words_code.specs.OwnTexts.{difference_text}
use Rattle.item_words_code.proofs.expectation.put_difference.Goals as goal

pub returns : goal.returns
unfolding ascii difference_text
returns c = puts-last (puts-last (puts-last (puts-last (puts-last (puts c.put_text-a.ensures) c.put_hex-b.ensures) c.put_text-c.ensures) c.put_hex-d.ensures) c.put_text-e.ensures) c.put_text.ensures
