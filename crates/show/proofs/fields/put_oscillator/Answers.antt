-- `show::fields::put_oscillator` meets its contract.
-- Assumes nothing.
use Rattle.show.proofs.Rows.{put_as, clock-state}
use Rattle.page.specs.Setup.{oscillator_row}
use Rattle.page.specs.Row.{register_row, binary}
use Rattle.wording.specs.Wording.{Texts, line_feed}
use mathlib.Core.List.{[], ◌∷◌, ◌++◌}
use mathlib.Core.Path.{ap}
use native.Mathlib.Omega.{arith}
use Rattle.unit.specs.Bits.{bits}
use Rattle.form.specs.Form.{register_texts, plural_texts, pair_of, pair_texts, piece_texts, takes, form_texts}
use Rattle.numeral.specs.Ascii.{ascii}
use borrow.Author.Rules.{rules}
use Rattle.show.proofs.fields.put_oscillator.Goals as goal

pub returns : goal.returns
unfolding ascii register_texts plural_texts pair_of pair_texts piece_texts takes form_texts register_row binary oscillator_row
returns c = let w = c.args.w in
    put_as c.put_form.ensures.put (ap (λ (ts : Texts). register_row (ascii "C3     Real-Time Clock          ") w ts) (clock-state (bits 4 4 w) (binary (bits 3 2 w) ++ (line_feed ∷ [])) (omega arith)))
