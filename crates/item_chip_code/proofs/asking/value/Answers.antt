-- `item_chip_code::asking::value` meets its contract. Assumes nothing.
use Prim.Native.Nat.{ℕ}
use mathlib.Core.Path.{◌≡◌, ◌∙◌, refl}
use lib.ListN.{get_or}
use Rattle.std.specs.Prelude.{Result, Ok, Err}
use Rattle.std.specs.Result.{result_unwrap_or}
use Rattle.refusal.specs.declared.Refusal.{Refusal}
use Rattle.refusal.specs.Number.{value_told}
use Rattle.item_chip_code.proofs.asking.value.Goals as goal

same : (r : Result ℕ Refusal) → result_unwrap_or r 0 ≡ get_or (value_told r) 0 0
same (Ok n) = refl
same (Err e) = refl

pub returns : goal.returns
returns c = c.unwrap_or.ensures ∙ same c.args.told
