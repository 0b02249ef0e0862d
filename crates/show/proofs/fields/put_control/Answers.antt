-- `show::fields::put_control` meets its contract.
-- Assumes nothing.
use Rattle.show.proofs.Rows.{put_as, end-four}
use Rattle.page.specs.Setup.{control_row}
use Rattle.page.specs.Row.{register_row}
use Rattle.wording.specs.Wording.{reported_where}
use mathlib.Core.List.{[]}
use lib.Dec.{eqb}
use Rattle.unit.specs.Bits.{bits, is_set}
use Rattle.form.specs.Form.{register_texts, plural_texts, pair_of, pair_texts, piece_texts, takes, form_texts}
use Rattle.numeral.specs.Ascii.{ascii}
use borrow.Author.Rules.{rules}
use Rattle.show.proofs.fields.put_control.Goals as goal

pub returns : goal.returns
unfolding ascii register_texts plural_texts pair_of pair_texts piece_texts takes form_texts register_row control_row
returns c = let w = c.args.w in
    put_as c.put_form.ensures.put (end-four (register_row (ascii "C2     Calibration and Control  ") w []) (reported_where (is_set 9 w) (ascii " INT_EN")) (reported_where (is_set 8 w) (ascii " ET_CONT")) (reported_where (is_set 7 w) (ascii " CONT_INT")) (reported_where (eqb (bits 9 7 w) 0) (ascii " none")))
