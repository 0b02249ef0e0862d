-- `item_keep_code::analysis::written` meets its contract.
-- Assumes nothing.
use Prim.Native.Nat.{ℕ}
use mathlib.Core.Path.{◌≡◌, ◌∙◌, refl}
use Rattle.std.specs.Prelude.{Result, Ok, Err}
use Rattle.std.specs.Result.{result_unwrap_or}
use Rattle.refusal.specs.declared.Refusal.{Refusal}
use Rattle.item_keep_code.specs.OwnListed.{written_in}
use Rattle.item_keep_code.proofs.analysis.written.Goals as goal

same : (r : Result ℕ Refusal) → result_unwrap_or r 0 ≡ written_in r
unfolding written_in
same (Ok n) = refl
same (Err e) = refl

pub returns : goal.returns
returns c = c.unwrap_or.ensures ∙ same _
