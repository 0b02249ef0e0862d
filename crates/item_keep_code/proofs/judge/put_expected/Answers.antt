-- `item_keep_code::judge::put_expected` meets its contract.
-- Assumes nothing.
use Rattle.numeral.specs.Ascii.{ascii}
use Rattle.text.proofs.Putting.{puts_first, puts-last}
use Rattle.item_keep_code.proofs.judge.put_expected.Goals as goal

pub returns : goal.returns
unfolding ascii
returns c = puts-last (puts_first c.put_text-a.ensures c.put_spaced-b.ensures) c.put_text.ensures
