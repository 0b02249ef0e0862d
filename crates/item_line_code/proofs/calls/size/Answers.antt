-- `item_line_code::calls::size` meets its contract. Assumes nothing.
use mathlib.Core.Path.{◌∙◌}
use Rattle.item_line_code.proofs.calls.size.Goals as goal

pub returns : goal.returns
returns c = c.read_decimal.ensures ∙ rw c.bytes_from.ensures
