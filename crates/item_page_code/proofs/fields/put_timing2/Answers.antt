-- `item_page_code::fields::put_timing2` meets its contract. Assumes nothing.
use Prim.Native.Nat.{◌+◌, ◌%◌, ◌/◌, ◌*◌}
use mathlib.Core.List.{[]}
use Rattle.numeral.specs.Ascii.{ascii}
use Rattle.text.proofs.Putting.{puts_none}
use Rattle.numeral.specs.Print.{decimal}
use Rattle.item_page.specs.Row.{binary}
use Rattle.item_page.specs.Registers.{timing2_text}
use Rattle.item_page_form.specs.OwnForm.{piece_then, takes, filled}
use Rattle.item_page_code.proofs.Rows.{part, ◌and◌, put-text, counted}
use borrow.Author.Rules.{rules}
use Rattle.item_page_code.proofs.fields.put_timing2.Goals as goal

pub returns : goal.returns
unfolding ascii piece_then takes filled timing2_text binary
returns c = let w = c.args.w in put-text (c.put_form.ensures.on [] _ _ (puts_none _ _)) (part (ascii "TMM ") and counted (w / 2048 % 32 + 1) " cycle" and part (ascii ", TP ") and (part (decimal (w / 32 % 4 / 2)) and part (decimal (w / 32 % 4 % 2)) and part (ascii "b")) and part (ascii ", PORTCYC ") and part (decimal (128 * (w % 4 + 1))) and part (ascii " us"))
