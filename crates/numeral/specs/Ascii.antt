-- Texts as bytes. Assumes nothing.
use Rattle.std.specs.Prelude.{ℕ, List, [], ◌∷◌}
use Prim.Native.Char.{code}
use Prim.Native.String.{String, [] as nothing, ◌∷◌ as ◌before◌}

-- The code of each character.
unfoldable pub ascii : String → List ℕ
ascii nothing = []
ascii (c before s) = code c ∷ ascii s
