-- The turns of the loops. Assumes nothing.
use Prim.Native.Nat.{ℕ, ◌+◌, ◌≤◌, ◌<◌}
use mathlib.Core.List.{List, map}
use mathlib.Core.Path.{◌≡◌}
use native.Mathlib.Numerals.{add-one}
use lib.ListN.{length, get_or, drop, drop_of_length-le}
use lib.Seq.{drop-cons}
use Rattle.item_analysis.specs.Kept.{Kept, kept_one, kept_each}

-- A value more is kept, f of the word at hand.
module _ {A : Type 0} (f : ℕ → A) (ws : List ℕ) (i : ℕ) where
  pub kept_on : i < length ws → (k : Kept A) {k' end : Kept A} → k' ≡ kept_one (f (get_or ws i 0)) k → kept_each (map f (drop i ws)) k ≡ end
      → kept_each (map f (drop (i + 1) ws)) k' ≡ end
  unfolding kept_each
  kept_on less k {k'} {end} one e = rw (one, add-one i) (rw (drop-cons ws i 0 less) at e)

  pub kept-end : length ws ≤ i → (k : Kept A) {end : Kept A} → kept_each (map f (drop i ws)) k ≡ end → k ≡ end
  unfolding kept_each
  kept-end all k e = rw (drop_of_length-le ws all) at e

-- So of the words themselves.
module _ (ws : List ℕ) (i : ℕ) where
  pub entries-on : i < length ws → (k : Kept ℕ) {k' end : Kept ℕ} → k' ≡ kept_one (get_or ws i 0) k → kept_each (drop i ws) k ≡ end
      → kept_each (drop (i + 1) ws) k' ≡ end
  unfolding kept_each
  entries-on less k {k'} {end} one e = rw (one, add-one i) (rw (drop-cons ws i 0 less) at e)

  pub entries-end : length ws ≤ i → (k : Kept ℕ) {end : Kept ℕ} → kept_each (drop i ws) k ≡ end → k ≡ end
  unfolding kept_each
  entries-end all k e = rw (drop_of_length-le ws all) at e
