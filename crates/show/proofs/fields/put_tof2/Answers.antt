-- `show::fields::put_tof2` meets its contract.
-- Assumes nothing.
use Rattle.show.proofs.Rows.{put_as, tof2-row}
use Rattle.page.specs.Row.{register_row, plural}
use Rattle.wording.specs.Wording.{counted}
use Rattle.form.specs.Form.{register_texts, plural_texts, pair_of, pair_texts, piece_texts, takes, form_texts}
use Rattle.numeral.specs.Ascii.{ascii}
use borrow.Author.Rules.{rules}
use Rattle.show.proofs.fields.put_tof2.Goals as goal

pub returns : goal.returns
unfolding ascii register_texts plural_texts pair_of pair_texts piece_texts takes form_texts register_row plural counted
returns c = put_as c.put_form.ensures.put (tof2-row c.args.w c.stop_row.result c.timeout_row.result c.stop_row.ensures c.timeout_row.ensures)
