-- `item_state::told::value` meets its contract.
-- Assumes nothing.
use Prim.Native.Nat.{ℕ}
use mathlib.Core.Path.{◌≡◌, ◌∙◌, refl}
use Rattle.std.specs.Prelude.{Result, Ok, Err}
use Rattle.std.specs.Result.{result_unwrap_or}
use Rattle.refusal.specs.declared.Refusal.{Refusal}
use Rattle.item_state.specs.Told.{told_value}
use Rattle.item_state.proofs.told.value.Goals as goal

same : (r : Result ℕ Refusal) → result_unwrap_or r 0 ≡ told_value r
unfolding told_value
same (Ok n) = refl
same (Err e) = refl

pub returns : goal.returns
returns c = c.unwrap_or.ensures ∙ same _
