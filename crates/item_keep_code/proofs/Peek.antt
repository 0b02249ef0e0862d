-- What a sound model tells of a register. Assumes nothing.
use Prim.Native.Nat.{ℕ, ◌≤◌}
use mathlib.Core.Bool.{true}
use mathlib.Core.Path.{◌≡◌, sym, ◌∙◌}
use native.Mathlib.Omega.{arith}
use borrow.Author.Tests.{le-ltb}
use Rattle.device.specs.declared.Model.{Model}
use Rattle.device.specs.Model.{is_sound}
use Rattle.device.specs.Registers.{register_word}
use Rattle.device.specs.Question.{peek}
use Rattle.refusal.specs.declared.Refusal.{Refusal}
use Rattle.std.specs.Prelude.{Result, Ok, Err}

module _ (m : Model) (a : ℕ) (sound : is_sound m ≡ true) (low : 0xB0 ≤ a) (high : a ≤ 0xFF) where
  told : peek m a ≡ Ok (register_word m a)
  unfolding peek
  told = rw (sound, le-ltb a 0xB0 low, le-ltb 0xFF a high)

  pub value-told : {r : Result ℕ Refusal} {v : ℕ} → r ≡ peek m a → r ≡ Ok v → v ≡ register_word m a
  value-told same is = let e = sym is ∙ (same ∙ told) in cc

  pub not-refused : {G : Type 0} {r : Result ℕ Refusal} {n : Refusal} → r ≡ peek m a → r ≡ Err n → G
  not-refused same is = let e = sym is ∙ (same ∙ told) in let z : ◌≡◌ {A = ℕ} 0 1 = cc in absurd (omega arith)
