-- `item_words_code::answer::put_output` meets its contract.
-- Assumes nothing.
use Prim.Native.Nat.{ℕ}
use mathlib.Core.List.{List, [], ◌∷◌, ◌++◌}
use mathlib.Core.Path.{◌≡◌, refl}
use native.Mathlib.Omega.{arith}
use lib.ListN.{length}
use Rattle.numeral.specs.Print.{hex_bytes}
use Rattle.numeral.specs.Ascii.{ascii}
use Rattle.text.proofs.Putting.{puts, puts_none, puts-last}
use Rattle.item_answer.specs.Words.{output_text}
use Rattle.item_words_code.proofs.answer.put_output.Goals as goal

empty : (bs : List ℕ) → length bs ≡ 0 → output_text bs ≡ []
unfolding output_text
empty [] h = refl
empty (b ∷ bs) h = absurd (omega arith)

full : (bs : List ℕ) → (length bs ≡ 0 → ⊥) → output_text bs ≡ ascii " out " ++ hex_bytes bs
unfolding output_text
full [] h = absurd (h refl)
full (b ∷ bs) h = refl

pub returns-then-out-eq0 : goal.returns-then-out-eq0
returns-then-out-eq0 c = rw (empty _ c.if-out-eq0.true) (puts_none _ _)

pub returns : goal.returns
unfolding ascii
returns c = rw (full _ c.if-out-eq0.false) (puts-last (puts c.put_text-start.ensures) c.put_hex_bytes.ensures)
