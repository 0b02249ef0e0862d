-- `show::times::put_ports` meets its contract.
-- Assumes nothing.
use Rattle.show.proofs.Rows.{no_rows, row-then, result-then, port-then, fill}
use Rattle.page.specs.Results.{port_rows, count_row}
use Rattle.page.specs.Row.{lines, register_row, absent_row}
use Rattle.show.specs.Words.{words_from, page_words}
use Rattle.form.specs.Form.{register_texts, plural_texts, pair_of, pair_texts, piece_texts, takes, form_texts}
use Rattle.numeral.specs.Ascii.{ascii}
use borrow.Author.Rules.{rules}
use Rattle.show.proofs.times.put_ports.Goals as goal

pub returns : goal.returns
unfolding ascii register_texts plural_texts piece_texts takes form_texts register_row absent_row count_row port_rows words_from page_words
returns c = fill 55 c.args.words.now port_rows c.put_form.ensures c.words_from.ensures (λ m. port-then m 0xE7 (port-then m 0xE9 (port-then m 0xEB (port-then m 0xED (row-then (result-then m 0xF0 (result-then m 0xF2 (result-then m 0xF4 (result-then m 0xF6 no_rows)))))))))
