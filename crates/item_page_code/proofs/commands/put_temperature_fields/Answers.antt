-- `item_page_code::commands::put_temperature_fields` meets its contract. Assumes nothing.
use Prim.Native.Nat.{◌%◌, ◌/◌}
use mathlib.Core.List.{[]}
use borrow.Author.Tests.{eq-eqb, ne_eqb}
use Rattle.numeral.specs.Ascii.{ascii}
use Rattle.text.specs.Text.{spaced_each}
use Rattle.text.proofs.Putting.{puts_none}
use Rattle.numeral.specs.Print.{decimal}
use Rattle.item_page.specs.Row.{binary}
use Rattle.item_page.specs.Page.{temperature_fields}
use Rattle.item_page_form.specs.OwnForm.{piece_then, takes, filled}
use Rattle.item_page_code.proofs.Rows.{part, ◌and◌, put-text}
use borrow.Author.Rules.{rules}
use Rattle.item_page_code.proofs.commands.put_temperature_fields.Goals as goal

pub returns-then-tp-eq3 : goal.returns-then-tp-eq3
unfolding spaced_each temperature_fields
returns-then-tp-eq3 c = rw (c.if-judged.true, eq-eqb _ _ c.if-tp-eq3.true) (puts_none _ _)

pub returns-then-judged : goal.returns-then-judged
unfolding ascii piece_then takes filled spaced_each temperature_fields binary
returns-then-judged c = let tp = c.args.w / 32 % 4 in rw (c.if-judged.true, ne_eqb _ _ c.if-tp-eq3.false) (put-text (c.put_form.ensures.on [] _ _ (puts_none _ _)) (part (ascii " ") and (part (ascii "TP ") and (part (decimal (tp / 2)) and part (decimal (tp % 2)) and part (ascii "b"))) and part []))

pub returns : goal.returns
unfolding spaced_each
returns c = rw c.if-judged.false (puts_none _ _)
