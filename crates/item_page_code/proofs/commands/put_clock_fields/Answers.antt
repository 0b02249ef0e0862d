-- `item_page_code::commands::put_clock_fields` meets its contract. Assumes nothing.
use mathlib.Core.List.{[]}
use Rattle.unit.specs.Bits.{is_set}
use Rattle.numeral.specs.Ascii.{ascii}
use Rattle.text.specs.Text.{spaced_each}
use Rattle.text.proofs.Putting.{puts_none}
use Rattle.item_page.specs.Page.{clock_fields}
use Rattle.item_page_form.specs.OwnForm.{piece_then, takes, filled}
use Rattle.item_page_code.proofs.Rows.{name, put-spaced}
use borrow.Author.Rules.{rules}
use Rattle.item_page_code.proofs.commands.put_clock_fields.Goals as goal

pub returns-then-judged : goal.returns-then-judged
unfolding ascii piece_then takes filled clock_fields
returns-then-judged c = let w = c.args.w in rw c.if-judged.true (put-spaced (clock_fields w) (name (is_set 4 w) "EOSC 1") (c.put_form.ensures.on [] _ _ (puts_none _ _)))

pub returns : goal.returns
unfolding spaced_each
returns c = rw c.if-judged.false (puts_none _ _)
