-- `show::fields::put_setup` meets its contract.
-- Assumes nothing.
use Rattle.show.proofs.Rows.{row_as, word-as, fill-as}
use Rattle.page.specs.Setup.{tof1_row, tof2_row, setup_rows}
use Rattle.page.specs.Row.{lines, register_row, stored_row}
use Rattle.wording.proofs.Each.{put_then}
use Rattle.show.specs.Words.{words_from, page_words}
use Rattle.form.specs.Form.{register_texts, plural_texts, pair_of, pair_texts, piece_texts, takes, form_texts}
use Rattle.numeral.specs.Ascii.{ascii}
use borrow.Author.Rules.{rules}
use Rattle.show.proofs.fields.put_setup.Goals as goal

pub returns : goal.returns
unfolding ascii register_texts plural_texts pair_of pair_texts piece_texts takes form_texts lines register_row stored_row setup_rows words_from page_words
returns c = λ m e. put_then (fill-as 6 c.args.words.now m c.put_form-a.ensures c.words_from.ensures e) (put_then (row_as tof1_row (word-as 8 c.args.words.now m c.value.ensures e) c.put_tof1-b.ensures) (put_then (row_as tof2_row (word-as 9 c.args.words.now m c.value-2.ensures e) c.put_tof2-c.ensures) (fill-as 10 c.args.words.now m c.put_form.ensures c.words_from-2.ensures e)))
