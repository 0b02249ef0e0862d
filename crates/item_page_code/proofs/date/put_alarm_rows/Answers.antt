-- `item_page_code::date::put_alarm_rows` meets its contract. Assumes nothing.
use lib.ListN.{drop}
use Rattle.unit.specs.Bits.{bits}
use Rattle.numeral.specs.Ascii.{ascii}
use Rattle.text.proofs.Putting.{puts, puts_then}
use Rattle.item_page.specs.Row.{stored_row}
use Rattle.item_page.specs.Registers.{clock_rows, time_of_day, half_day, alarm_text}
use Rattle.item_page_form.specs.OwnForm.{piece_then, takes, filled}
use Rattle.item_page_code.specs.OwnWords.{word_at}
use Rattle.item_page_code.proofs.Rows.{part, ◌and◌, register, no_rows, put-rows}
use borrow.Author.Rules.{rules}
use Rattle.item_page_code.proofs.date.put_alarm_rows.Goals as goal

pub returns : goal.returns
unfolding ascii piece_then takes filled stored_row clock_rows
returns c = put-rows (drop 6 (clock_rows (word_at c.args.words.now))) (c.put_form-a.ensures.on _ _ _ (puts_then c.put_time-b.ensures (puts_then c.put_half-c.ensures (puts_then c.put_alarm-d.ensures (puts c.put_text.ensures))))) (register _ _ (part (ascii "stored only")) (register _ _ (part (time_of_day (word_at c.args.words.now 0xB5)) and part (half_day (word_at c.args.words.now 0xB5)) and part (alarm_text (bits 3 2 (word_at c.args.words.now 0xC3)))) no_rows))
