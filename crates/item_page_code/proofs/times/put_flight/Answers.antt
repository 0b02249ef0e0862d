-- `item_page_code::times::put_flight` meets its contract. Assumes nothing.
use lib.ListN.{drop}
use Rattle.numeral.specs.Ascii.{ascii}
use Rattle.item_page.specs.Row.{absent_row}
use Rattle.item_page.specs.Registers.{result_row, flight_rows}
use Rattle.item_page_form.specs.OwnForm.{piece_then, takes, filled}
use Rattle.item_page_code.specs.OwnWords.{word_at, pair_at}
use Rattle.item_page_code.proofs.Rows.{part, register, pair, row, put-rows, rows_are}
use borrow.Author.Rules.{rules}
use Rattle.item_page_code.proofs.times.put_flight.Goals as goal

pub put_differences-requires : goal.put_differences-requires
put_differences-requires c = c.requires

pub returns : goal.returns
unfolding ascii piece_then takes filled absent_row result_row flight_rows
returns c = put-rows (flight_rows (word_at c.args.words.now) (pair_at c.args.words.now)) (c.put_form-a.ensures.on _ _ _ c.put_differences.ensures) (row (part (ascii "CONVERSION RESULTS REGISTERS")) (register _ _ (part (ascii "not carried")) (pair _ _ _ (pair _ _ _ (pair _ _ _ (pair _ _ _ (pair _ _ _ (pair _ _ _ (pair _ _ _ (register _ _ (part (ascii "not carried")) (pair _ _ _ (pair _ _ _ (pair _ _ _ (pair _ _ _ (pair _ _ _ (pair _ _ _ (pair _ _ _ (rows_are (drop 17 (flight_rows (word_at c.args.words.now) (pair_at c.args.words.now)))))))))))))))))))))
