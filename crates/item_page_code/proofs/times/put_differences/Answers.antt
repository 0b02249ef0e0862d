-- `item_page_code::times::put_differences` meets its contract. Assumes nothing.
use lib.ListN.{drop}
use Rattle.numeral.specs.Ascii.{ascii}
use Rattle.text.proofs.Putting.{puts, puts_then}
use Rattle.numeral.specs.Print.{decimal}
use Rattle.item_page.specs.Registers.{signed_time, difference_text, count_row, flight_rows}
use Rattle.item_page_form.specs.OwnForm.{piece_then, takes, filled}
use Rattle.item_page_code.specs.OwnWords.{word_at, pair_at}
use Rattle.item_page_code.proofs.Rows.{part, ◌and◌, register, pair, no_rows, put-rows, put_as, put-as-two}
use borrow.Author.Rules.{rules}
use Rattle.item_page_code.proofs.times.put_differences.Goals as goal

pub returns : goal.returns
unfolding ascii piece_then takes filled count_row flight_rows
returns c = put-rows (drop 17 (flight_rows (word_at c.args.words.now) (pair_at c.args.words.now))) (c.put_form-a.ensures.on _ _ _ (puts_then (put-as-two difference_text c.pair_of.ensures c.pair_of-2.ensures c.put_difference-b.ensures) (c.put_form-c.ensures.on _ _ _ (puts_then (put_as signed_time c.pair_of-3.ensures c.put_signed_time-d.ensures) (puts c.put_text.ensures))))) (pair _ _ _ (register _ _ (part (ascii "good cycles: ") and part (decimal (word_at c.args.words.now 0xE4))) (pair _ _ _ no_rows)))
