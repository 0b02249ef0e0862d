-- `item_page_code::state::put_high` meets its contract. Assumes nothing.
use mathlib.Core.List.{[]}
use Rattle.unit.specs.Bits.{is_set}
use Rattle.numeral.specs.Ascii.{ascii}
use Rattle.text.proofs.Putting.{puts_none}
use Rattle.item_page.specs.Registers.{high_names}
use Rattle.item_page_form.specs.OwnForm.{piece_then, takes, filled}
use Rattle.item_page_code.proofs.Rows.{name, ◌with◌, put-spaced}
use borrow.Author.Rules.{rules}
use Rattle.item_page_code.proofs.state.put_high.Goals as goal

pub returns : goal.returns
unfolding ascii piece_then takes filled high_names
returns c = let w = c.args.w in put-spaced (high_names w) (name (is_set 15 w) "TO" with name (is_set 14 w) "AF" with name (is_set 12 w) "TOF" with name (is_set 11 w) "TE" with name (is_set 10 w) "LDO" with name (is_set 9 w) "TOF_EVTMG" with name (is_set 8 w) "TEMP_EVTMG") (c.put_form.ensures.on [] _ _ (puts_none _ _))
