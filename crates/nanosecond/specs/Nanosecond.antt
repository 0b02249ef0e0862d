-- A difference's nanoseconds as a float, and what the float means.
use Rattle.std.specs.Prelude.{ℕ, ◌*◌, ◌≡◌, Bool, true, false, ℤ, pos, neg_ℤ, ◌*ℤ◌, Float}
use Rattle.std.specs.Float.{nan, inf, fin}
use Rattle.std.specs.Float.Ieee.{up, down}

-- a whole number of a sign, true for minus, and a size
abbrev pub signed : Bool → ℕ → ℤ
signed false n = pos n
signed true n = neg_ℤ (pos n)

-- The float x times the number k is exactly the whole number z. A finite float means ±m × 2^e, and 2^e is `up e` ÷ `down e`: both
-- sides are multiplied by `down e`, so that the equation is one of whole numbers. An infinity or a NaN means no number.
abbrev pub TimesIs : Float → ℕ → ℤ → Type 0
TimesIs nan k z = ⊥
TimesIs (inf s) k z = ⊥
TimesIs (fin s m e) k z = signed s (m * up e * k) ≡ z *ℤ pos (down e)

-- "the float's exact meaning times 65,536 equals 250 × the quanta .. Zero is plus zero"
pub record Nanoseconds (quanta : ℤ) (x : Float) : Type 0 where
  pub exact : TimesIs x 65536 (pos 250 *ℤ quanta)
  pub plus_zero : quanta ≡ pos 0 → x ≡ fin false 0 (pos 0)
