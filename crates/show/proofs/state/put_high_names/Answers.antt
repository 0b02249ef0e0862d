-- `show::state::put_high_names` meets its contract.
-- Assumes nothing.
use Rattle.show.proofs.Rows.{put_as, last-seven}
use Rattle.page.specs.Results.{high_names}
use Rattle.wording.specs.Wording.{reported_where}
use Rattle.unit.specs.Bits.{is_set}
use Rattle.form.specs.Form.{register_texts, plural_texts, pair_of, pair_texts, piece_texts, takes, form_texts}
use Rattle.numeral.specs.Ascii.{ascii}
use borrow.Author.Rules.{rules}
use Rattle.show.proofs.state.put_high_names.Goals as goal

pub returns : goal.returns
unfolding ascii register_texts plural_texts pair_of pair_texts piece_texts takes form_texts high_names
returns c = let w = c.args.w in
    put_as c.put_form.ensures.put (last-seven (reported_where (is_set 15 w) (ascii " TO")) (reported_where (is_set 14 w) (ascii " AF")) (reported_where (is_set 12 w) (ascii " TOF")) (reported_where (is_set 11 w) (ascii " TE")) (reported_where (is_set 10 w) (ascii " LDO")) (reported_where (is_set 9 w) (ascii " TOF_EVTMG")) (reported_where (is_set 8 w) (ascii " TEMP_EVTMG")))
