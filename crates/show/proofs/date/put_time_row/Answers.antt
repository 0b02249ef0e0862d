-- `show::date::put_time_row` meets its contract.
-- Assumes nothing.
use Rattle.show.proofs.Rows.{put_as, time-row}
use Rattle.page.specs.Row.{register_row}
use Rattle.form.specs.Form.{register_texts, plural_texts, pair_of, pair_texts, piece_texts, takes, form_texts}
use Rattle.numeral.specs.Ascii.{ascii}
use borrow.Author.Rules.{rules}
use Rattle.show.proofs.date.put_time_row.Goals as goal

pub returns : goal.returns
unfolding ascii register_texts plural_texts pair_of pair_texts piece_texts takes form_texts register_row
returns c = put_as c.put_form.ensures.put (time-row c.args.w c.hours.result c.hours.ensures)
