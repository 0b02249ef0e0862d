-- A difference's sign and magnitude, as the machine forms them. Assumes nothing.
use Prim.Native.Nat.{◌≤◌}
use mathlib.Core.Path.{◌≡◌, refl, sym, ap, ◌∙◌, subst}
use mathlib.Core.Bool.{Bool, true, false}
use native.Mathlib.Omega.{arith}
use lib.IntN.{ℤ, pos, negsuc, nat_abs, ◌-ℤ◌}
use lib.Signed.{lt_z, non_neg}
use mir.Syntax.{w32, w64}
use mir.Val.{SFits, of_z, to_z}
use mir.ValLaws.{to_z-of_z}
use borrow.Author.Tests.{ltb-true}

pub magnitude-most : (z : ℤ) → SFits w32 z → nat_abs z ≤ 2147483648
magnitude-most (pos n) f = omega (arith, f.sfits)
magnitude-most (negsuc n) f = omega (arith, f.sfits)

negated : (z : ℤ) → lt_z z (pos 0) ≡ true → pos 0 -ℤ z ≡ pos (nat_abs z)
negated (pos n) e = absurd (omega (arith, ltb-true n 0 e))
negated (negsuc n) e = ap pos (omega arith)

pub not_negative : (z : ℤ) → lt_z z (pos 0) ≡ false → non_neg z ≡ true
not_negative (pos n) e = refl
not_negative (negsuc n) e = cc

-- a 32-bit difference, as it is read, tested and negated in 64 bits
module _ (z : ℤ) (fits : SFits w32 z) where
  abbrev read : ℤ
  read = to_z w32 (of_z w32 z)

  pub same : read ≡ z
  same = to_z-of_z w32 z fits

  pub tested : {t : Bool} → lt_z read (pos 0) ≡ t → lt_z z (pos 0) ≡ t
  tested e = ap (λ (x : ℤ). lt_z x (pos 0)) (sym same) ∙ e

  pub read_wide : SFits w64 read
  read_wide = subst (SFits w64) (sym same) (record { sfits = omega (arith, fits.sfits) })

  wide : to_z w64 (of_z w64 read) ≡ z
  wide = to_z-of_z w64 read read_wide ∙ same

  module _ (below : lt_z read (pos 0) ≡ true) where
    opposite : pos 0 -ℤ to_z w64 (of_z w64 read) ≡ pos (nat_abs z)
    opposite = ap (λ (x : ℤ). pos 0 -ℤ x) wide ∙ negated z (tested below)

    pub opposite-fits : SFits w64 (pos 0 -ℤ to_z w64 (of_z w64 read))
    opposite-fits = subst (SFits w64) (sym opposite) (record { sfits = omega (arith, magnitude-most z fits) })

    pub opposite-read : to_z w64 (of_z w64 (pos 0 -ℤ to_z w64 (of_z w64 read))) ≡ pos (nat_abs z)
    opposite-read = to_z-of_z w64 (pos 0 -ℤ to_z w64 (of_z w64 read)) opposite-fits ∙ opposite
