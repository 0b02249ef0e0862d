-- `item_keep_code::differences::put_difference` meets its contract.
-- Assumes nothing.
use borrow.Author.Rules.{rules}
use mathlib.Core.Path.{◌∙◌}
use mir.Syntax.{w32}
use mir.ValLaws.{to_z-of_z}
use Rattle.numeral.specs.Ascii.{ascii}
use Rattle.text.proofs.Putting.{puts_first}
use Rattle.item_keep_code.proofs.differences.put_difference.Goals as goal

pub returns : goal.returns
unfolding ascii
returns c = let number = to_z-of_z w32 c.signed.result (search rules) ∙ c.signed.ensures in puts_first c.put_text-a.ensures (rw number at c.put_quanta.ensures)
