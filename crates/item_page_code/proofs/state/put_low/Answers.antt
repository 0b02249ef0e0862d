-- `item_page_code::state::put_low` meets its contract. Assumes nothing.
use mathlib.Core.List.{[]}
use Rattle.unit.specs.Bits.{is_set}
use Rattle.numeral.specs.Ascii.{ascii}
use Rattle.text.proofs.Putting.{puts_none}
use Rattle.item_page.specs.Registers.{low_names}
use Rattle.item_page_form.specs.OwnForm.{piece_then, takes, filled}
use Rattle.item_page_code.proofs.Rows.{name, ◌with◌, put-spaced}
use borrow.Author.Rules.{rules}
use Rattle.item_page_code.proofs.state.put_low.Goals as goal

pub returns : goal.returns
unfolding ascii piece_then takes filled low_names
returns c = let w = c.args.w in put-spaced (low_names w) (name (is_set 7 w) "FLASH" with name (is_set 5 w) "HALT" with name (is_set 3 w) "INIT" with name (is_set 2 w) "POR") (c.put_form.ensures.on [] _ _ (puts_none _ _))
