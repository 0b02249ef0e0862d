-- The bytes of frames, as code puts them. Assumes nothing.
use Rattle.std.specs.Prelude.{ℕ, ◌/◌, ◌%◌, List, [], ◌∷◌}

-- The two low bytes of each word, the high one first.
unfoldable pub low_word_bytes : List ℕ → List ℕ
low_word_bytes [] = []
low_word_bytes (w ∷ ws) = w / 256 % 256 ∷ w % 256 ∷ low_word_bytes ws
