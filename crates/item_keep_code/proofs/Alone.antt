-- Answers that are one line. Assumes nothing.
use Prim.Native.Nat.{ℕ}
use mathlib.Core.List.{[]}
use mathlib.Core.Path.{◌≡◌, refl}
use Rattle.item_answer.specs.Answer.{Item, degrees_told, quietest_told}
use Rattle.refusal.specs.declared.Refusal.{Refusal}
use Rattle.std.specs.Prelude.{Result, Ok, Err}

pub degrees-alone : (d : Result ℕ Refusal) (i : Item) → (degrees_told d i).further ≡ []
unfolding degrees_told
degrees-alone (Ok n) i = refl
degrees-alone (Err r) i = refl

pub quietest-alone : (width : ℕ) (p : Result ℕ Refusal) (i : Item) → (quietest_told width p i).further ≡ []
unfolding quietest_told
quietest-alone width (Ok start) i = refl
quietest-alone width (Err r) i = refl
