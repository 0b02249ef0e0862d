-- What an analysis returns beside a number and its values.
use Rattle.std.specs.Prelude.{ℕ, List, [], take, drop, ℤ}
use Rattle.std.specs.Prelude.{Result, Ok, Err}
use Rattle.refusal.specs.declared.Refusal.{Refusal}

-- the values of a run of w from its place on
unfoldable pub place_run : Result ℕ Refusal → List ℤ → ℕ → List ℤ
place_run (Err r) values w = []
place_run (Ok i) values w = take w (drop i values)
