-- Truth values as numbers. Assumes nothing.
use Prim.Native.Nat.{ℕ, ◌≤◌}
use mathlib.Core.Bool.{Bool, true, false, not}
use mathlib.Core.Path.{◌≡◌, refl, ◌∙◌}
use native.Mathlib.Omega.{arith}
use mir.Val.{bool_byte}
use Rattle.unit.specs.Choice.{negate}
use Rattle.device.specs.Reply.{flag}

same : (b : Bool) → bool_byte b ≡ flag b
same true = refl
same false = refl

pub opposite : (b : Bool) → not b ≡ negate b
opposite true = refl
opposite false = refl

few : (b : Bool) → bool_byte b ≤ 1
few true = omega arith
few false = omega arith

pub flagged : {n : ℕ} {b c : Bool} → n ≡ bool_byte b → b ≡ c → n ≡ flag c
flagged {n} {b} {c} e s = e ∙ (same b ∙ rw s)

pub flagged-not : {n : ℕ} {b c : Bool} → n ≡ bool_byte (not b) → b ≡ c → n ≡ flag (negate c)
flagged-not {n} {b} {c} e s = e ∙ (same (not b) ∙ rw (opposite b, s))

pub at-most-one : {n : ℕ} (b : Bool) → n ≡ bool_byte b → n ≤ 1
at-most-one {n} b e = omega (arith, few b)
