-- The words of a line as text. Assumes nothing.
use Rattle.std.specs.Prelude.{List, [], ◌∷◌, ℕ}

-- Words, with one blank before each.
unfoldable pub blanked : List (List ℕ) → List (List ℕ)
blanked [] = []
blanked (w ∷ ws) = (32 ∷ []) ∷ w ∷ blanked ws

-- The line's words, parted by one blank.
unfoldable pub spaced : List (List ℕ) → List (List ℕ)
spaced [] = []
spaced (w ∷ ws) = w ∷ blanked ws
