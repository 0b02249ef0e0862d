-- `item_page_code::date::put_clock` meets its contract. Assumes nothing.
use Prim.Native.Nat.{◌/◌}
use mathlib.Core.Path.{◌∙◌}
use lib.ListN.{drop}
use Rattle.numeral.specs.Ascii.{ascii}
use Rattle.text.proofs.Putting.{puts_then, puts_first}
use Rattle.numeral.specs.Print.{decimal}
use Rattle.numeral.specs.Digit.{digits}
use Rattle.item_page.specs.Registers.{clock_rows, seconds, time_of_day, half_day, clock_text}
use Rattle.item_page_form.specs.OwnForm.{piece_then, takes, filled}
use Rattle.item_page_code.specs.OwnWords.{word_at}
use Rattle.item_page_code.proofs.Rows.{part, ◌and◌, register, row, put-rows, rows_are}
use borrow.Author.Rules.{rules}
use Rattle.item_page_code.proofs.date.put_clock.Goals as goal

pub put_alarm_rows-requires : goal.put_alarm_rows-requires
put_alarm_rows-requires c = c.requires

pub shape_of-buf : goal.shape_of-buf
shape_of-buf c = c.put_alarm_rows.auto.buf ∙ c.put_text-i.auto.buf ∙ c.put_half-h.auto.buf ∙ c.put_form-g.auto.buf ∙ c.put_time-f.auto.buf ∙ c.put_form-e.auto.buf ∙ c.put_half-c.auto.buf ∙ c.put_time-b.auto.buf ∙ c.put_form-a.auto.buf

pub returns : goal.returns
unfolding ascii piece_then takes filled seconds clock_text clock_rows
returns c = put-rows (clock_rows (word_at c.args.words.now)) (c.put_form-a.ensures.on _ _ _ (puts_then c.put_time-b.ensures (puts_then c.put_half-c.ensures (c.put_form-e.ensures.on _ _ _ (puts_then c.put_time-f.ensures (c.put_form-g.ensures.on _ _ _ (puts_then c.put_half-h.ensures (puts_first c.put_text-i.ensures c.put_alarm_rows.ensures)))))))) (let s = (word_at c.args.words.now 0xB0) in let t = (word_at c.args.words.now 0xB1) in let d = (word_at c.args.words.now 0xB2) in let m = (word_at c.args.words.now 0xB3) in row (part (ascii "RTC AND WATCHDOG REGISTERS")) (register _ _ (part (digits 16 2 s) and part (ascii ".") and part (digits 16 2 (s / 256)) and part (ascii " s")) (register _ _ (part (time_of_day t) and part (half_day t)) (register _ _ (part (ascii "weekday ") and part (decimal (d / 256)) and part (ascii ", date ") and part (digits 16 2 d)) (register _ _ (part (ascii "month ") and part (digits 16 2 (m / 256)) and part (ascii ", year 20") and part (digits 16 2 m)) (row (part (ascii "       Clock                               ") and (part (ascii "20") and part (digits 16 2 m) and part (ascii "-") and part (digits 16 2 (m / 256)) and part (ascii "-") and part (digits 16 2 d) and part (ascii " ") and part (time_of_day t) and part (ascii ":") and (part (digits 16 2 s) and part (ascii ".") and part (digits 16 2 (s / 256))) and part (half_day t))) (rows_are (drop 6 (clock_rows (word_at c.args.words.now))))))))))
