-- What a bit field comes to.
use Prim.Native.Nat.{ℕ, zero, suc, ◌+◌, ◌-◌, ◌/◌, ◌%◌, ◌^◌}
use native.Mathlib.Nat.{div-one, sub-zero}
use mathlib.Core.Path.{◌≡◌, refl}
use Rattle.unit.specs.Bits.{bits}

pub bits_are : (high low w : ℕ) → bits high low w ≡ w / 2 ^ low % 2 ^ (high - low + 1)
bits_are high zero w = rw (div-one, sub-zero)
bits_are high (suc n) w = refl
