-- Lists of numbers below a bound: at a place, behind a place, and with one number anew. Assumes nothing.
use Prim.Native.Nat.{ℕ, zero, suc, ◌+◌, ◌*◌, ◌<◌}
use native.Mathlib.Omega.{arith}
use mathlib.Core.List.{List, [], ◌∷◌}
use lib.ListN.{get_or, set, drop, length-set}
use mathlib.Core.Path.{◌∙◌}
use Rattle.frame.specs.Frame.{word_at}
use Rattle.register_words.specs.Words.{EachBelow, Array}

-- a place behind the last one reads 0
pub at_place : (bound : ℕ) (ws : List ℕ) → 0 < bound → EachBelow bound ws → (i : ℕ) → get_or ws i 0 < bound
at_place bound [] some h i = some
at_place bound (w ∷ ws) some h zero = h.0
at_place bound (w ∷ ws) some h (suc i) = at_place bound ws some h.1 i

pub behind : (bound n : ℕ) (ws : List ℕ) → EachBelow bound ws → EachBelow bound (drop n ws)
behind bound zero ws h = h
behind bound (suc n) [] h = h
behind bound (suc n) (w ∷ ws) h = behind bound n ws h.1

with-one : (bound : ℕ) (ws : List ℕ) (i w : ℕ) → w < bound → EachBelow bound ws → EachBelow bound (set ws i w)
with-one bound [] i w less h = h
with-one bound (v ∷ ws) zero w less h = (less, h.1)
with-one bound (v ∷ ws) (suc i) w less h = (h.0, with-one bound ws i w less h.1)

pub set-array : (many bound : ℕ) (ws : List ℕ) (i w : ℕ) → w < bound → Array many bound ws → Array many bound (set ws i w)
set-array many bound ws i w less a =
    record { long = length-set ws i w ∙ a.long; below = with-one bound ws i w less a.below }

-- Two bytes are a word of 16 bits.
pub word_small : (bytes : List ℕ) (i : ℕ) → EachBelow 256 bytes → word_at bytes i < 65536
unfolding word_at
word_small bytes i h =
    omega (arith, at_place 256 bytes (omega arith) h (2 * i), at_place 256 bytes (omega arith) h (2 * i + 1))
