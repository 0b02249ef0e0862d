-- Signed numbers as the machine has them: by their bits, read back. Assumes nothing.
use Prim.Native.Nat.{◌<◌}
use mathlib.Core.Path.{◌≡◌, sym, ap, ◌∙◌}
use mathlib.Core.Bool.{Bool}
use lib.IntN.{ℤ}
use lib.Signed.{lt_z, mag}
use mir.Syntax.{Width, w32}
use mir.Val.{SFits, of_z, to_z}
use mir.ValLaws.{to_z-of_z}

-- a comparison of what is read back is one of the numbers
pub tested : (w : Width) (a b : ℤ) {t : Bool} → SFits w a → SFits w b → lt_z (to_z w (of_z w a)) (to_z w (of_z w b)) ≡ t → lt_z a b ≡ t
tested w a b f g e =
    sym (ap (λ (x : ℤ). lt_z x (to_z w (of_z w b))) (to_z-of_z w a f) ∙ ap (λ (y : ℤ). lt_z a y) (to_z-of_z w b g)) ∙ e

pub back : (a : ℤ) → mag a < 2147483648 → to_z w32 (of_z w32 a) ≡ a
back a h = to_z-of_z w32 a (record { sfits = h })

pub both-back : (f : ℤ → ℤ → ℤ) (a b : ℤ) → mag a < 2147483648 → mag b < 2147483648 → f (to_z w32 (of_z w32 a)) (to_z w32 (of_z w32 b)) ≡ f a b
both-back f a b h k = ap (λ (x : ℤ). f x (to_z w32 (of_z w32 b))) (back a h) ∙ ap (λ (y : ℤ). f a y) (back b k)
