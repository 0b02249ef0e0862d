-- What the definitions of `Numbers` come to, word by word. Assumes nothing.
use Prim.Native.Nat.{ℕ, ◌+◌}
use mathlib.Core.Path.{◌≡◌}
use mathlib.Core.Bool.{cond}
use mathlib.Core.List.{List, [], ◌∷◌}
use lib.Dec.{eqb}
use lib.ListN.{set}
use Rattle.line.specs.declared.Form.{Form}
use Rattle.line.specs.declared.ListWord.TheVariants.{Slash, Past, Word, Wrong}
use Rattle.line.specs.declared.Tally.{Tally}
use Rattle.line.specs.declared.Tally.TheVariants.{All}
use Rattle.line.specs.Numbers.{list_word, tallied, Outcome}

module _ (f : Form) (n k u : ℕ) (l : List ℕ) where
  pub tally-end : {xs : List (List ℕ)} → xs ≡ [] → ◌≡◌ {A = Outcome} (record { tally = All n k u; numbers = l }) (tallied f n k u l xs)
  unfolding tallied
  tally-end none = rw none

  module _ {w : List ℕ} {ws xs : List (List ℕ)} (first : xs ≡ w ∷ ws) where
    pub tally-slash : list_word f n w ≡ Slash → tallied f n (k + 1) (cond (eqb k 0) n u) l ws ≡ tallied f n k u l xs
    unfolding tallied
    tally-slash e = rw (first, e)

    pub tally-past : list_word f n w ≡ Past → tallied f (n + 1) k u l ws ≡ tallied f n k u l xs
    unfolding tallied
    tally-past e = rw (first, e)

    pub tally-word : {v : ℕ} → list_word f n w ≡ Word v → tallied f (n + 1) k u (set l n v) ws ≡ tallied f n k u l xs
    unfolding tallied
    tally-word e = rw (first, e)

    pub tally-wrong : list_word f n w ≡ Wrong → ◌≡◌ {A = Outcome} (record { tally = Tally.Wrong; numbers = l }) (tallied f n k u l xs)
    unfolding tallied
    tally-wrong e = rw (first, e)
