-- `item_page_code::state::put_last` meets its contract. Assumes nothing.
use mathlib.Core.List.{[], ◌∷◌}
use Rattle.unit.specs.Choice.{pick}
use Rattle.numeral.specs.Ascii.{ascii}
use Rattle.text.proofs.Putting.{puts_none, puts_then, puts_first}
use Rattle.item_page.specs.Row.{absent_row}
use Rattle.item_page.specs.Registers.{supply_row}
use Rattle.item_page_form.specs.OwnForm.{piece_then, takes, filled}
use Rattle.item_page_code.proofs.Rows.{part, ◌and◌, register, no_rows, row, put-rows}
use borrow.Author.Rules.{rules}
use Rattle.item_page_code.proofs.state.put_last.Goals as goal

pub returns : goal.returns
unfolding ascii piece_then takes filled supply_row absent_row
returns c = put-rows (supply_row c.args.on ∷ absent_row "FF     Control                  " c.args.w ∷ []) (puts_first c.put_text-a.ensures (puts_then c.put_either-b.ensures (c.put_form.ensures.on [] _ _ (puts_none _ _)))) (row (part (ascii "       Flash supply                        ") and part (pick c.args.on (ascii "on") (ascii "off"))) (register _ _ (part (ascii "not carried")) no_rows))
