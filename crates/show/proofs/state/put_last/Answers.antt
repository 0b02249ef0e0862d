-- `show::state::put_last` meets its contract.
-- Assumes nothing.
use Rattle.show.proofs.Rows.{fill-as, row_as, word-as, status-as, last-rows}
use Rattle.show.proofs.Lines.{lines-append}
use Rattle.page.specs.Results.{pair_word, supply_row, last_rows}
use Rattle.page.specs.Row.{lines, register_row, pair_row, absent_row, absent_pair}
use Rattle.wording.proofs.Each.{put_then}
use mathlib.Core.List.{[], ◌∷◌}
use Rattle.show.specs.Words.{words_from, page_words}
use Rattle.form.specs.Form.{register_texts, plural_texts, pair_of, pair_texts, piece_texts, takes, form_texts}
use Rattle.numeral.specs.Ascii.{ascii}
use borrow.Author.Rules.{rules}
use Rattle.show.proofs.state.put_last.Goals as goal

pub returns : goal.returns
unfolding ascii register_texts plural_texts pair_of pair_texts piece_texts takes form_texts lines register_row pair_row pair_word absent_row absent_pair words_from page_words
returns c = λ m e on. last-rows m (put_then (fill-as 72 c.args.words.now m c.put_form-a.ensures c.words_from.ensures e) (put_then (status-as (word-as 78 c.args.words.now m c.value.ensures e) c.put_status-b.ensures) (put_then (row_as supply_row on c.put_supply-c.ensures) (fill-as 79 c.args.words.now m c.put_form.ensures c.words_from-2.ensures e))))
