-- `item_page_code::times::put_temperatures` meets its contract. Assumes nothing.
use mathlib.Core.List.{[]}
use Rattle.numeral.specs.Ascii.{ascii}
use Rattle.text.proofs.Putting.{puts_none}
use Rattle.numeral.specs.Print.{decimal}
use Rattle.item_page.specs.Row.{absent_pair}
use Rattle.item_page.specs.Registers.{result_row, port_row, count_row, temperature_rows}
use Rattle.item_page_form.specs.OwnForm.{piece_then, takes, filled}
use Rattle.item_page_code.specs.OwnWords.{word_at, pair_at}
use Rattle.item_page_code.proofs.Rows.{part, ◌and◌, register, pair, no_rows, put-rows}
use borrow.Author.Rules.{rules}
use Rattle.item_page_code.proofs.times.put_temperatures.Goals as goal

pub returns : goal.returns
unfolding ascii piece_then takes filled absent_pair result_row port_row count_row temperature_rows
returns c = put-rows (temperature_rows (word_at c.args.words.now) (pair_at c.args.words.now)) (c.put_form.ensures.on [] _ _ (puts_none _ _)) (pair _ _ _ (pair _ _ _ (pair _ _ _ (pair _ _ _ (register _ _ (part (ascii "good cycles: ") and part (decimal (word_at c.args.words.now 0xEF))) (pair _ _ _ (pair _ _ _ (pair _ _ _ (pair _ _ _ (pair _ _ _ (pair _ _ _ (pair _ _ _ no_rows))))))))))))
