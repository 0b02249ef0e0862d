-- `show::times::put_differences` meets its contract.
-- Assumes nothing.
use Rattle.show.proofs.Rows.{fill-as, pair-as, difference-as, signed-as, difference-rows}
use Rattle.page.specs.Results.{pair_word, difference_row, count_row, mean_row, difference_rows}
use Rattle.page.specs.Row.{lines, register_row, pair_row}
use Rattle.wording.proofs.Each.{put_one, put_then}
use Rattle.show.specs.Words.{words_from, page_words}
use Rattle.form.specs.Form.{register_texts, plural_texts, pair_of, pair_texts, piece_texts, takes, form_texts}
use Rattle.numeral.specs.Ascii.{ascii}
use borrow.Author.Rules.{rules}
use Rattle.show.proofs.times.put_differences.Goals as goal

pub returns : goal.returns
unfolding ascii register_texts plural_texts pair_of pair_texts piece_texts takes form_texts register_row pair_row pair_word count_row words_from page_words
returns c = λ m e. difference-rows m (put_then (fill-as 50 c.args.words.now m c.put_form-a.ensures c.words_from.ensures e) (put_then (difference-as (pair-as 50 c.args.words.now m c.pair.ensures e) (pair-as 33 c.args.words.now m c.pair-2.ensures e) c.put_difference_time-b.ensures) (put_then (fill-as 52 c.args.words.now m c.put_form-c.ensures c.words_from-2.ensures e) (put_then (signed-as (pair-as 53 c.args.words.now m c.pair-3.ensures e) c.put_signed_time-d.ensures) (put_one c.put_text.ensures)))))
