-- `item_page_code::fields::put_timing1` meets its contract. Assumes nothing.
use Prim.Native.Nat.{◌+◌, ◌%◌, ◌/◌, ◌*◌}
use mathlib.Core.List.{[]}
use Rattle.numeral.specs.Ascii.{ascii}
use Rattle.text.proofs.Putting.{puts_none}
use Rattle.numeral.specs.Print.{decimal}
use Rattle.item_page.specs.Registers.{half_seconds, timing1_text}
use Rattle.item_page_form.specs.OwnForm.{piece_then, takes, filled}
use Rattle.item_page_code.proofs.Rows.{part, ◌and◌, put-text, counted}
use borrow.Author.Rules.{rules}
use Rattle.item_page_code.proofs.fields.put_timing1.Goals as goal

pub returns : goal.returns
unfolding ascii piece_then takes filled timing1_text half_seconds
returns c = let w = c.args.w in put-text (c.put_form.ensures.on [] _ _ (puts_none _ _)) (part (ascii "TDF ") and (part (decimal ((w / 4096 % 16 + 1) / 2)) and part (ascii ".") and part (decimal ((w / 4096 % 16 + 1) % 2 * 5))) and part (ascii " s, TDM ") and counted (w / 128 % 32 + 1) " cycle" and part (ascii ", TMF ") and part (decimal (w / 2 % 64 + 1)) and part (ascii " s"))
