-- `show::date::put_clock_row` meets its contract.
-- Assumes nothing.
use Rattle.show.proofs.Rows.{put_as, clock-row}
use Rattle.page.specs.Clock.{date_texts, seconds}
use Rattle.form.specs.Form.{register_texts, plural_texts, pair_of, pair_texts, piece_texts, takes, form_texts}
use Rattle.numeral.specs.Ascii.{ascii}
use borrow.Author.Rules.{rules}
use Rattle.show.proofs.date.put_clock_row.Goals as goal

pub returns : goal.returns
unfolding ascii register_texts plural_texts pair_of pair_texts piece_texts takes form_texts date_texts seconds
returns c = put_as c.put_form.ensures.put (clock-row c.args.second c.args.time c.args.day c.args.month c.hours.result c.hours.ensures)
