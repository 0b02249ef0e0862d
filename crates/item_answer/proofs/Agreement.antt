-- What a model has agrees with itself. Assumes nothing.
use Prim.Native.Nat.{ℕ, ◌+◌}
use mathlib.Core.List.{List, [], ◌∷◌, map}
use mathlib.Core.Path.{◌≡◌, refl}
use Rattle.text.proofs.Apart.{fits-itself}
use Rattle.item_page.specs.Row.{word}
use Rattle.item_answer.specs.Words.{difference, differences}

-- `expect` and `read` of the very words that are there name no difference, whatever they are.
pub none-differs : (at : ℕ) (ws : List ℕ) → differences at ws (map word ws) ≡ []
unfolding differences difference
none-differs at [] = refl
none-differs at (w ∷ ws) = rw (fits-itself (word w)) (none-differs (at + 1) ws)
