-- The turns of the loops that print. Assumes nothing.
use Prim.Native.Nat.{ℕ, suc, ◌+◌, ◌≤◌, ◌<◌}
use mathlib.Core.List.{List, [], ◌∷◌, ◌++◌}
use mathlib.Core.Path.{◌≡◌}
use native.Mathlib.Numerals.{add-one}
use lib.ListN.{length, drop, get_or, drop_of_length-le}
use lib.Seq.{drop-cons}
use Rattle.numeral.specs.Ascii.{ascii}
use Rattle.text.specs.Text.{Text, spaced_each}
use Rattle.text.specs.OwnPut.{Puts}
use Rattle.text.proofs.Putting.{puts_none, puts_then}

-- What is put after l's place `at` on completes a text that began elsewhere.
abbrev pub Completes : List ℕ → ℕ → Text → List ℕ → ℕ → Text → Type 0
Completes l at rest l₀ at₀ whole = (r : ℕ) (l' : List ℕ) → Puts l at rest r l' → Puts l₀ at₀ whole r l'

pub completed : {l l₀ : List ℕ} {at at₀ : ℕ} {whole : Text} → Completes l at [] l₀ at₀ whole → Puts l₀ at₀ whole at l
completed {l} {l₀} {at} done = done at l (puts_none l at)

-- A text more after a blank, f of the number at hand.
module _ (texts : List ℕ → List Text) (f : ℕ → Text) (ws : List ℕ) (i : ℕ) where
  pub spaced-on : {l l' l₀ : List ℕ} {at r at₀ : ℕ} {whole : Text} →
      ((v : ℕ) (vs : List ℕ) → texts (v ∷ vs) ≡ f v ∷ texts vs) →
      i < length ws →
      Puts l at (ascii " " ++ f (get_or ws i 0)) r l' →
      Completes l at (spaced_each (texts (drop i ws))) l₀ at₀ whole →
      Completes l' r (spaced_each (texts (drop (i + 1) ws))) l₀ at₀ whole
  unfolding spaced_each ascii
  spaced-on {l} {l'} {l₀} {at} {r} {at₀} {whole} each less text done s k rest =
      let next : Puts l' r (spaced_each (texts (drop (suc i) ws))) s k = rw (add-one i) at rest in
      done s k (rw (drop-cons ws i 0 less, each (get_or ws i 0) (drop (suc i) ws)) (puts_then text next))

  pub spaced-end : {l l₀ : List ℕ} {at at₀ : ℕ} {whole : Text} →
      texts [] ≡ [] → length ws ≤ i → Completes l at (spaced_each (texts (drop i ws))) l₀ at₀ whole → Puts l₀ at₀ whole at l
  unfolding spaced_each
  spaced-end none all done = completed (rw (drop_of_length-le ws all, none) at done)
