-- What the definitions of `Spaced` come to, word by word. Assumes nothing.
use Prim.Native.Nat.{ℕ}
use mathlib.Core.Path.{◌≡◌, ◌∙◌}
use mathlib.Core.List.{List, [], ◌∷◌}
use Rattle.numeral.specs.Place.{Put, Placed, put_each}
use Rattle.numeral.proofs.PlaceLaws.{put-each-first}
use Rattle.line.specs.Spaced.{blanked, spaced}

module _ (l : List ℕ) (at : ℕ) {xs : List (List ℕ)} where
  pub blanked-end : xs ≡ [] → ◌≡◌ {A = Placed} (record { next = at; bytes = l }) (put_each l at (blanked xs))
  unfolding put_each blanked
  blanked-end none = rw none

  pub spaced-end : xs ≡ [] → ◌≡◌ {A = Placed} (record { next = at; bytes = l }) (put_each l at (spaced xs))
  unfolding put_each spaced
  spaced-end none = rw none

  module _ {w : List ℕ} {ws : List (List ℕ)} (first : xs ≡ w ∷ ws) {r : ℕ} {l' : List ℕ} where
    pub blanked-next : {r'' : ℕ} {l'' : List ℕ} → Put l at (32 ∷ []) r l' → Put l' r w r'' l'' → put_each l'' r'' (blanked ws) ≡ put_each l at (blanked xs)
    unfolding blanked
    blanked-next blank word =
        rw first (put-each-first l' r w (blanked ws) word ∙ put-each-first l at (32 ∷ []) (w ∷ blanked ws) blank)

    pub spaced-next : Put l at w r l' → put_each l' r (blanked ws) ≡ put_each l at (spaced xs)
    unfolding spaced
    spaced-next word = rw first (put-each-first l at w (blanked ws) word)
