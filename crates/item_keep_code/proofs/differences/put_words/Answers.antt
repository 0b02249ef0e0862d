-- `item_keep_code::differences::put_words` meets its contract.
-- Assumes nothing.
use Rattle.numeral.specs.Ascii.{ascii}
use Rattle.text.proofs.Putting.{puts_first}
use Rattle.item_keep_code.proofs.differences.put_words.Goals as goal

pub returns : goal.returns
unfolding ascii
returns c = puts_first c.put_text-a.ensures c.put_each.ensures
