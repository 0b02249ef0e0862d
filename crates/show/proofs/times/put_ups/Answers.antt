-- `show::times::put_ups` meets its contract.
-- Assumes nothing.
use Rattle.show.proofs.Rows.{no_rows, row-then, result-then, port-then, fill}
use Rattle.page.specs.Results.{up_rows, count_row}
use Rattle.page.specs.Row.{lines, register_row, absent_row}
use Rattle.show.specs.Words.{words_from, page_words}
use Rattle.form.specs.Form.{register_texts, plural_texts, pair_of, pair_texts, piece_texts, takes, form_texts}
use Rattle.numeral.specs.Ascii.{ascii}
use borrow.Author.Rules.{rules}
use Rattle.show.proofs.times.put_ups.Goals as goal

pub returns : goal.returns
unfolding ascii register_texts plural_texts piece_texts takes form_texts register_row absent_row up_rows words_from page_words
returns c = fill 20 c.args.words.now up_rows c.put_form.ensures c.words_from.ensures (λ m. row-then (row-then (result-then m 0xC5 (result-then m 0xC7 (result-then m 0xC9 (result-then m 0xCB (result-then m 0xCD (result-then m 0xCF (result-then m 0xD1 no_rows)))))))))
