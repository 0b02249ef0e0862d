-- `show::fields::put_more_setup` meets its contract.
-- Assumes nothing.
use Rattle.show.proofs.Rows.{row_as, word-as, fill-as}
use Rattle.page.specs.Setup.{timing1_row, timing2_row, control_row, oscillator_row, more_setup_rows}
use Rattle.page.specs.Row.{lines, register_row, stored_row}
use Rattle.wording.proofs.Each.{put-none, put_then}
use Rattle.show.specs.Words.{words_from, page_words}
use Rattle.form.specs.Form.{register_texts, plural_texts, pair_of, pair_texts, piece_texts, takes, form_texts}
use Rattle.numeral.specs.Ascii.{ascii}
use mathlib.Core.Path.{◌∙◌}
use borrow.Author.Rules.{rules}
use Rattle.show.proofs.fields.put_more_setup.Goals as goal

pub shape_of-buf : goal.shape_of-buf
shape_of-buf c = c.put_oscillator.auto.buf ∙ c.put_control-e.auto.buf ∙ c.put_form-d.auto.buf ∙ c.put_timing2-c.auto.buf ∙ c.put_timing1-b.auto.buf ∙ c.put_form-a.auto.buf

pub returns : goal.returns
unfolding ascii register_texts plural_texts pair_of pair_texts piece_texts takes form_texts lines register_row stored_row more_setup_rows words_from page_words
returns c = λ m e. put_then (fill-as 13 c.args.words.now m c.put_form-a.ensures c.words_from.ensures e) (put_then (row_as timing1_row (word-as 15 c.args.words.now m c.value.ensures e) c.put_timing1-b.ensures) (put_then (row_as timing2_row (word-as 16 c.args.words.now m c.value-2.ensures e) c.put_timing2-c.ensures) (put_then (fill-as 17 c.args.words.now m c.put_form-d.ensures c.words_from-2.ensures e) (put_then (row_as control_row (word-as 18 c.args.words.now m c.value-3.ensures e) c.put_control-e.ensures) (put_then (row_as oscillator_row (word-as 19 c.args.words.now m c.value-4.ensures e) c.put_oscillator.ensures) (put-none _ _))))))
