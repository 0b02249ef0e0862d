-- `item_line_code::calls::is_out` meets its contract. Assumes nothing.
use mathlib.Core.Path.{◌∙◌}
use Rattle.numeral.specs.Ascii.{ascii}
use Rattle.item_line_code.proofs.calls.is_out.Goals as goal

pub returns : goal.returns
unfolding ascii
returns c = c.same.ensures ∙ rw c.first_bytes.ensures
