-- `item_page_code::fields::put_oscillator` meets its contract. Assumes nothing.
use Prim.Native.Nat.{◌%◌, ◌/◌}
use mathlib.Core.List.{[]}
use native.Mathlib.Omega.{arith}
use Rattle.numeral.specs.Ascii.{ascii}
use Rattle.text.proofs.Putting.{puts_none}
use Rattle.numeral.specs.Print.{decimal}
use Rattle.item_page.specs.Row.{binary}
use Rattle.item_page.specs.Registers.{oscillator_text}
use Rattle.item_page_form.specs.OwnForm.{piece_then, takes, filled}
use Rattle.item_page_code.proofs.Rows.{part, ◌and◌, put-text, one_of}
use borrow.Author.Rules.{rules}
use Rattle.item_page_code.proofs.fields.put_oscillator.Goals as goal

pub returns : goal.returns
unfolding ascii piece_then takes filled oscillator_text binary
returns c = let w = c.args.w in put-text (c.put_form.ensures.on [] _ _ (puts_none _ _)) (one_of (w / 16 % 2) (ascii "EOSC 1 clock stands, AM ") (ascii "EOSC 0 clock runs, AM ") (omega arith) and (part (decimal (w / 4 % 4 / 2)) and part (decimal (w / 4 % 4 % 2)) and part (ascii "b")))
