-- `show::times::put_downs` meets its contract.
-- Assumes nothing.
use Rattle.show.proofs.Rows.{no_rows, row-then, result-then, port-then, fill}
use Rattle.page.specs.Results.{down_rows, count_row}
use Rattle.page.specs.Row.{lines, register_row, absent_row}
use Rattle.show.specs.Words.{words_from, page_words}
use Rattle.form.specs.Form.{register_texts, plural_texts, pair_of, pair_texts, piece_texts, takes, form_texts}
use Rattle.numeral.specs.Ascii.{ascii}
use borrow.Author.Rules.{rules}
use Rattle.show.proofs.times.put_downs.Goals as goal

pub returns : goal.returns
unfolding ascii register_texts plural_texts piece_texts takes form_texts register_row absent_row down_rows words_from page_words
returns c = fill 35 c.args.words.now down_rows c.put_form.ensures c.words_from.ensures (λ m. row-then (result-then m 0xD4 (result-then m 0xD6 (result-then m 0xD8 (result-then m 0xDA (result-then m 0xDC (result-then m 0xDE (result-then m 0xE0 no_rows))))))))
