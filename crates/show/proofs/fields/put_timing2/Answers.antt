-- `show::fields::put_timing2` meets its contract.
-- Assumes nothing.
use Rattle.show.proofs.Rows.{put_as, end-two}
use Rattle.page.specs.Setup.{timing2_row}
use Rattle.page.specs.Row.{register_row, plural, binary}
use Rattle.wording.specs.Wording.{counted}
use mathlib.Core.List.{[], ◌∷◌, ◌++◌}
use Rattle.unit.specs.Bits.{bits}
use Prim.Native.Nat.{◌+◌, ◌*◌}
use Rattle.form.specs.Form.{register_texts, plural_texts, pair_of, pair_texts, piece_texts, takes, form_texts}
use Rattle.numeral.specs.Ascii.{ascii}
use borrow.Author.Rules.{rules}
use Rattle.show.proofs.fields.put_timing2.Goals as goal

pub returns : goal.returns
unfolding ascii register_texts plural_texts pair_of pair_texts piece_texts takes form_texts register_row plural binary counted timing2_row
returns c = let w = c.args.w in
    put_as c.put_form.ensures.put (end-two (register_row (ascii "C0     Event Timing 2           ") w (ascii " TMM " ∷ [])) (plural (bits 15 11 w + 1) (ascii " cycle")) (ascii ", TP " ∷ (binary (bits 6 5 w) ++ (ascii ", PORTCYC " ∷ counted (128 * (bits 1 0 w + 1)) (ascii " us")))))
