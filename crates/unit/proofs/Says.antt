-- An answer that is the one defined says what that says.
use Prim.Native.Nat.{ℕ}
use mathlib.Core.List.{List}
use mathlib.Core.Path.{◌≡◌, ap}
use Rattle.unit.specs.Says.{Says}

pub says : {A : Type 0} {number values : A → List ℕ} {r a : A} → r ≡ a → Says number values r a
says {number} {values} e = record { numbered = ap number e; valued = ap values e; same = e }
