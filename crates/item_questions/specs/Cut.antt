-- Bytes as they stand in one buffer, cut by lengths that stand in another: nothing that a reader of the answers has to believe.
use Rattle.std.specs.Prelude.{ℕ, List, [], ◌∷◌, take, drop}

unfoldable pub cut : List ℕ → List ℕ → List (List ℕ)
cut bytes [] = []
cut bytes (n ∷ ns) = take n bytes ∷ cut (drop n bytes) ns
