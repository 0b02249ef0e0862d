-- `item_page_code::commands::put_flight_fields` meets its contract. Assumes nothing.
use Prim.Native.Nat.{◌%◌, ◌/◌}
use mathlib.Core.List.{[]}
use lib.Dec.{eqb}
use Rattle.numeral.specs.Ascii.{ascii}
use Rattle.text.specs.Text.{spaced_each}
use Rattle.text.proofs.Putting.{puts_none}
use Rattle.item_page.specs.Page.{flight_fields}
use Rattle.item_page_form.specs.OwnForm.{piece_then, takes, filled}
use Rattle.item_page_code.proofs.Rows.{name, ◌with◌, put-spaced}
use borrow.Author.Rules.{rules}
use Rattle.item_page_code.proofs.commands.put_flight_fields.Goals as goal

pub returns-then-judged : goal.returns-then-judged
unfolding ascii piece_then takes filled flight_fields
returns-then-judged c = let w = c.args.w in rw c.if-judged.true (put-spaced (flight_fields w) (name (eqb (w / 256 % 256) 0) "PL 0" with name (eqb (w / 16 % 16) 0) "DPL 0") (c.put_form.ensures.on [] _ _ (puts_none _ _)))

pub returns : goal.returns
unfolding spaced_each
returns c = rw c.if-judged.false (puts_none _ _)
