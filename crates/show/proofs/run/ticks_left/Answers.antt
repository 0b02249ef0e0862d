-- `show::run::ticks_left` meets its contract.
-- Assumes nothing.
use mathlib.Core.Path.{◌≡◌, ◌∙◌, refl, ap}
use Rattle.std.specs.Prelude.{Result, Ok, Err}
use Rattle.std.specs.Result.{result_unwrap_or}
use Rattle.unit.specs.declared.Ticks.{Ticks}
use Rattle.refusal.specs.declared.Refusal.{Refusal}
use Rattle.page.specs.Run.{left_ticks}
use Rattle.show.proofs.run.ticks_left.Goals as goal

same : (r : Result Ticks Refusal) → (result_unwrap_or r (record { 0 = 0 })).0 ≡ left_ticks r
unfolding left_ticks
same (Ok t) = refl
same (Err e) = refl

pub returns : goal.returns
returns c = ap (λ t. t.0) c.unwrap_or.ensures ∙ same _
