-- The test of some word of a list, as the library's `any` answers it.
use Prim.Native.Nat.{ℕ}
use mathlib.Core.Path.{◌≡◌, refl}
use mathlib.Core.Bool.{Bool, true, false}
use mathlib.Core.List.{List, [], ◌∷◌}
use Rattle.std.proofs.Common.{◌||◌}
use Rattle.std.specs.List.{list_any}
use Rattle.unit.specs.Choice.{either}
use Rattle.hit.specs.Limit.{any_word}

or_either : (t a b : Bool) → a ≡ b → (t || a) ≡ either t b
or_either true a b e = refl
or_either false a b e = e

pub any-list : (test : ℕ → Bool) (ws : List ℕ) → list_any test ws ≡ any_word test ws
unfolding any_word
any-list test [] = refl
any-list test (w ∷ ws) = or_either (test w) _ _ (any-list test ws)
