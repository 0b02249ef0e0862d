-- `item_page_code::fields::put_control` meets its contract. Assumes nothing.
use Prim.Native.Nat.{◌+◌, ◌%◌, ◌/◌}
use mathlib.Core.List.{[], ◌++◌}
use native.Mathlib.Omega.{arith}
use lib.Dec.{eqb}
use Rattle.unit.specs.Bits.{is_set}
use Rattle.numeral.specs.Ascii.{ascii}
use Rattle.text.specs.Text.{text_where}
use Rattle.text.proofs.Putting.{puts_none}
use Rattle.item_page.specs.Row.{names_or}
use Rattle.item_page.specs.Registers.{control_names}
use Rattle.item_page_form.specs.OwnForm.{piece_then, takes, filled}
use Rattle.item_page_code.proofs.Rows.{part, ◌and◌, put-text, put_same, name, ◌with◌, one, ◌plus◌, put-names}
use borrow.Author.Rules.{rules}
use Rattle.item_page_code.proofs.fields.put_control.Goals as goal

pub returns : goal.returns
unfolding ascii piece_then takes filled control_names
returns c = let w = c.args.w in let n = w / 512 % 2 + w / 256 % 2 + w / 128 % 2 in put-text (put-names "none" (control_names w) n [] (one (w / 512 % 2) "INT_EN" (omega arith) plus one (w / 256 % 2) "ET_CONT" (omega arith) plus one (w / 128 % 2) "CONT_INT" (omega arith)).same (put_same ((name (is_set 9 w) "INT_EN" with name (is_set 8 w) "ET_CONT" with name (is_set 7 w) "CONT_INT").same (text_where (eqb n 0) (ascii " none") ++ [])) (c.put_form.ensures.on [] _ _ (puts_none _ _)))) (part (ascii " ") and part (names_or "none" (control_names w)))
