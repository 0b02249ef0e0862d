-- The first line feed of a text. Assumes nothing.
use Rattle.std.specs.Prelude.{Bool, true, false, [], ◌∷◌, eqb}
use Rattle.unit.specs.Choice.{pick}
use Rattle.text.specs.Text.{Text}

-- Whether there is one.
unfoldable pub has_feed : Text → Bool
has_feed [] = false
has_feed (c ∷ cs) = pick (eqb c 10) true (has_feed cs)

-- The bytes before it, or all.
unfoldable pub before_feed : Text → Text
before_feed [] = []
before_feed (c ∷ cs) = pick (eqb c 10) [] (c ∷ before_feed cs)

-- The bytes after it, or none.
unfoldable pub after_feed : Text → Text
after_feed [] = []
after_feed (c ∷ cs) = pick (eqb c 10) cs (after_feed cs)
