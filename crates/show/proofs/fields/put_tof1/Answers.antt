-- `show::fields::put_tof1` meets its contract.
-- Assumes nothing.
use Rattle.page.specs.Setup.{tof1_row}
use Rattle.page.specs.Row.{register_row}
use Rattle.wording.proofs.Each.{put_one, put_then}
use Rattle.form.specs.Form.{register_texts, plural_texts, pair_of, pair_texts, piece_texts, takes, form_texts}
use Rattle.numeral.specs.Ascii.{ascii}
use borrow.Author.Rules.{rules}
use Rattle.show.proofs.fields.put_tof1.Goals as goal

pub returns : goal.returns
unfolding ascii register_texts plural_texts pair_of pair_texts piece_texts takes form_texts register_row tof1_row
returns c = put_then c.put_form-a.ensures.put (put_then (put_then c.put_pulses-b.ensures c.put_divider-c.ensures) (put_one c.put_text.ensures))
