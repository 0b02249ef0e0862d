-- `item_chip_code::comparing::compare` meets its contract. Assumes nothing.
use Rattle.item_chip_code.proofs.Comparisons.{compares}
use Rattle.numeral.specs.Ascii.{ascii}
use Rattle.item_chip_code.proofs.comparing.compare.Goals as goal

pub returns : goal.returns
unfolding ascii
returns c = compares _ _ _ _ _ _ c.put_text-k.ensures c.put_hex-h.ensures c.compare_each-c.ensures c.put_where_none-v.ensures c.put_text-end.ensures
