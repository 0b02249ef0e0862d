-- `item_keep_code::item::put_item` meets its contract.
-- Assumes nothing.
use Rattle.numeral.specs.Ascii.{ascii}
use Rattle.text.specs.Text.{ended, spaced}
use Rattle.text.proofs.Putting.{puts_first, puts-last}
use Rattle.item_keep_code.proofs.item.put_item.Goals as goal

pub returns : goal.returns
unfolding ended spaced ascii
returns c = rw (← c.part_of.ensures) (puts-last (puts_first c.put_text-a.ensures c.put_name-b.ensures) c.put_text.ensures)
