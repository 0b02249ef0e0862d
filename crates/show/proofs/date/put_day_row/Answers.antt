-- `show::date::put_day_row` meets its contract.
-- Assumes nothing.
use Rattle.page.specs.Clock.{day_row}
use Rattle.page.specs.Row.{register_row}
use Rattle.form.specs.Form.{register_texts, plural_texts, pair_of, pair_texts, piece_texts, takes, form_texts}
use Rattle.numeral.specs.Ascii.{ascii}
use borrow.Author.Rules.{rules}
use Rattle.show.proofs.date.put_day_row.Goals as goal

pub returns : goal.returns
unfolding ascii register_texts plural_texts pair_of pair_texts piece_texts takes form_texts register_row day_row
returns c = c.put_form.ensures.put
