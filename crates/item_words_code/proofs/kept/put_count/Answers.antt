-- `item_words_code::kept::put_count` meets its contract.
-- Assumes nothing.
use Rattle.text.proofs.Putting.{puts, puts-last}
use Rattle.item_words_code.proofs.kept.put_count.Goals as goal

pub returns : goal.returns
returns c = puts-last (puts c.put_decimal-a.ensures) c.put_text.ensures
