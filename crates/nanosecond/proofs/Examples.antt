-- Worked examples: the floats of 003's Table 1, worked out by hand. Assumes nothing.
use Prim.Native.Nat.{ℕ}
use native.Mathlib.Omega.{arith}
use mathlib.Core.Path.{◌≡◌, refl}
use mathlib.Core.Bool.{true, false}
use lib.IntN.{pos, negsuc}
use lib.Ieee.{fin}
use Rattle.nanosecond.specs.Nanosecond.{Nanoseconds}

-- -125,902 quanta: -480.27801513671875 ns, which is -7,868,875 ÷ 2^14
below-zero : Nanoseconds (negsuc 125901) (fin true 7868875 (negsuc 13))
below-zero = record { exact = refl; plus_zero = λ e. let z : ◌≡◌ {A = ℕ} 0 1 = cc in absurd (omega arith) }

-- 1,836,035 quanta: 7,003.917694091796875 ns, which is 229,504,375 ÷ 2^15
above_zero : Nanoseconds (pos 1836035) (fin false 229504375 (negsuc 14))
above_zero = record { exact = refl; plus_zero = λ e. let z : ◌≡◌ {A = ℕ} 1836035 0 = cc in absurd (omega arith) }
