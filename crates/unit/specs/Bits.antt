-- A bit field of a word, by its places as data sheet 000 numbers them, bit 0 the least.
use Rattle.std.specs.Prelude.{ℕ, zero, suc, ◌+◌, ◌-◌, ◌/◌, ◌%◌, ◌^◌, Bool, eqb}

-- The number that bits high to low of w hold: `bits 15 13 w` is "15:13" of w. One law says what it comes to, for every place:
-- w / 2 ^ low % 2 ^ (high - low + 1) (`bits_are` in proofs/Bits.antt).
abbrev pub bits : ℕ → ℕ → ℕ → ℕ
bits high zero w = w % 2 ^ (high + 1)
bits high (suc n) w = w / 2 ^ suc n % 2 ^ (high - suc n + 1)

-- Whether bit n of w is 1.
abbrev pub is_set : ℕ → ℕ → Bool
is_set n w = eqb (bits n n w) 1
