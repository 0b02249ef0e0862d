-- `show::state::put_low_names` meets its contract.
-- Assumes nothing.
use Rattle.show.proofs.Rows.{put_as, last-four}
use Rattle.page.specs.Results.{low_names}
use Rattle.wording.specs.Wording.{reported_where}
use Rattle.unit.specs.Bits.{is_set}
use Rattle.form.specs.Form.{register_texts, plural_texts, pair_of, pair_texts, piece_texts, takes, form_texts}
use Rattle.numeral.specs.Ascii.{ascii}
use borrow.Author.Rules.{rules}
use Rattle.show.proofs.state.put_low_names.Goals as goal

pub returns : goal.returns
unfolding ascii register_texts plural_texts pair_of pair_texts piece_texts takes form_texts low_names
returns c = let w = c.args.w in
    put_as c.put_form.ensures.put (last-four (reported_where (is_set 7 w) (ascii " FLASH")) (reported_where (is_set 5 w) (ascii " HALT")) (reported_where (is_set 3 w) (ascii " INIT")) (reported_where (is_set 2 w) (ascii " POR")))
