-- `show::fields::put_timing1` meets its contract.
-- Assumes nothing.
use Rattle.show.proofs.Rows.{put_as, end-two}
use Rattle.page.specs.Setup.{half_seconds, timing1_row}
use Rattle.page.specs.Row.{register_row, plural}
use Rattle.wording.specs.Wording.{counted}
use mathlib.Core.List.{[], ◌∷◌, ◌++◌}
use Rattle.unit.specs.Bits.{bits}
use Prim.Native.Nat.{◌+◌}
use Rattle.form.specs.Form.{register_texts, plural_texts, pair_of, pair_texts, piece_texts, takes, form_texts}
use Rattle.numeral.specs.Ascii.{ascii}
use borrow.Author.Rules.{rules}
use Rattle.show.proofs.fields.put_timing1.Goals as goal

pub returns : goal.returns
unfolding ascii register_texts plural_texts pair_of pair_texts piece_texts takes form_texts register_row plural counted half_seconds timing1_row
returns c = let w = c.args.w in
    put_as c.put_form.ensures.put (end-two (register_row (ascii "BF     Event Timing 1           ") w (ascii " TDF " ∷ (half_seconds (bits 15 12 w + 1) ++ (ascii " s, TDM " ∷ [])))) (plural (bits 11 7 w + 1) (ascii " cycle")) (ascii ", TMF " ∷ counted (bits 6 1 w + 1) (ascii " s")))
