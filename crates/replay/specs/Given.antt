-- What the program is asked for. Assumes nothing.
use Rattle.std.specs.Prelude.{ℕ, ◌-◌, List, ◌≡◌, length}
use Rattle.arguments.specs.declared.Options.{Options}
use Rattle.arguments.specs.Arguments.{options_of}

-- Of n arguments, the program's name among them: what some words ask for, as many as stand behind the name.
pub record Given (n : ℕ) (o : Options) : Type 0 where
  pub words : List (List ℕ)
  pub count : n - 1 ≡ length words
  pub asked : o ≡ options_of words
