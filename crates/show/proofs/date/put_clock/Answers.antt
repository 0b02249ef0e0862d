-- `show::date::put_clock` meets its contract.
-- Assumes nothing.
use Rattle.show.proofs.Rows.{row_as, word-as, fill-as, seconds-as, clock-as, alarm-as}
use Rattle.page.specs.Clock.{time_row, day_row, month_row, clock_rows}
use Rattle.page.specs.Row.{lines, register_row, stored_row}
use Rattle.wording.proofs.Each.{put_then}
use Rattle.show.specs.Words.{words_from, page_words}
use Rattle.form.specs.Form.{register_texts, plural_texts, pair_of, pair_texts, piece_texts, takes, form_texts}
use Rattle.numeral.specs.Ascii.{ascii}
use mathlib.Core.Path.{◌∙◌}
use borrow.Author.Rules.{rules}
use Rattle.show.proofs.date.put_clock.Goals as goal

pub shape_of-buf : goal.shape_of-buf
shape_of-buf c = c.put_alarm_row.auto.buf ∙ c.put_form-f.auto.buf ∙ c.put_clock_row-e.auto.buf ∙ c.put_month_row-d.auto.buf ∙ c.put_day_row-c.auto.buf ∙ c.put_time_row-b.auto.buf ∙ c.put_seconds_row-a.auto.buf

pub returns : goal.returns
unfolding ascii register_texts plural_texts pair_of pair_texts piece_texts takes form_texts lines register_row stored_row clock_rows words_from page_words
returns c = λ m e. put_then (seconds-as (word-as 0 c.args.words.now m c.value-second.ensures e) c.put_seconds_row-a.ensures) (put_then (row_as time_row (word-as 1 c.args.words.now m c.value-time.ensures e) c.put_time_row-b.ensures) (put_then (row_as day_row (word-as 2 c.args.words.now m c.value-day.ensures e) c.put_day_row-c.ensures) (put_then (row_as month_row (word-as 3 c.args.words.now m c.value-month.ensures e) c.put_month_row-d.ensures) (put_then (clock-as (word-as 0 c.args.words.now m c.value-second.ensures e) (word-as 1 c.args.words.now m c.value-time.ensures e) (word-as 2 c.args.words.now m c.value-day.ensures e) (word-as 3 c.args.words.now m c.value-month.ensures e) c.put_clock_row-e.ensures) (put_then (fill-as 4 c.args.words.now m c.put_form-f.ensures c.words_from.ensures e) (alarm-as (word-as 5 c.args.words.now m c.value.ensures e) (word-as 19 c.args.words.now m c.value-2.ensures e) c.put_alarm_row.ensures))))))
