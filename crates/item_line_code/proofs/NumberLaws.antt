-- What the definitions of `OwnNumbers` come to, word by word. Assumes nothing.
use Prim.Native.Nat.{ℕ, ◌+◌}
use mathlib.Core.Path.{◌≡◌}
use mathlib.Core.List.{List, [], ◌∷◌}
use lib.Dec.{eqb}
use lib.ListN.{set}
use Rattle.unit.specs.Choice.{pick}
use Rattle.text.specs.Text.{Text}
use Rattle.item_line_code.specs.declared.Form.{Form}
use Rattle.item_line_code.specs.declared.ListWord.{ListWord}
use Rattle.item_line_code.specs.OwnNumbers.{list_word, tallied, all, bad, Outcome}

module _ (f : Form) (n k u : ℕ) (l : List ℕ) where
  pub tally-end : {xs : List Text} → xs ≡ [] → ◌≡◌ {A = Outcome} (record { tally = all n k u; numbers = l }) (tallied f n k u l xs)
  unfolding tallied
  tally-end none = rw none

  module _ {w : Text} {ws xs : List Text} (first : xs ≡ w ∷ ws) where
    pub tally-slash : list_word f w ≡ ListWord.Slash → tallied f n (k + 1) (pick (eqb k 0) n u) l ws ≡ tallied f n k u l xs
    unfolding tallied
    tally-slash e = rw (first, e)

    pub tally-word : {v : ℕ} → list_word f w ≡ ListWord.Word v → tallied f (n + 1) k u (set l n v) ws ≡ tallied f n k u l xs
    unfolding tallied
    tally-word e = rw (first, e)

    pub tally-wrong : list_word f w ≡ ListWord.Wrong → ◌≡◌ {A = Outcome} (record { tally = bad w; numbers = l }) (tallied f n k u l xs)
    unfolding tallied
    tally-wrong e = rw (first, e)
