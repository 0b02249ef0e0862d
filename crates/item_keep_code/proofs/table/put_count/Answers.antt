-- `item_keep_code::table::put_count` meets its contract.
-- Assumes nothing.
use Rattle.numeral.specs.Ascii.{ascii}
use Rattle.text.proofs.Putting.{puts, puts_first}
use Rattle.item_keep_code.proofs.table.put_count.Goals as goal

pub returns : goal.returns
unfolding ascii
returns c = puts_first c.put_text-a.ensures (puts c.put_decimal.ensures)
