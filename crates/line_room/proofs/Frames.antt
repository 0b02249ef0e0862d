-- The frames of a line's transactions are bytes, whatever its numbers are. Assumes nothing.
use Prim.Native.Nat.{ℕ, ◌/◌}
use mathlib.Core.List.{List, [], ◌∷◌, ◌++◌}
use native.Mathlib.Omega.{arith}
use Rattle.numeral.specs.Place.{joined}
use Rattle.numeral.specs.Print.{low_bytes}
use Rattle.item_calls.specs.Lines.{word_bytes, write_bytes}
use Rattle.register_words.specs.Words.{EachBelow}

-- the frame of a line `bus`
pub low-bytes : (ws : List ℕ) → EachBelow 256 (low_bytes ws)
unfolding low_bytes
low-bytes [] = tt
low-bytes (w ∷ ws) = (omega arith, low-bytes ws)

both_bytes : (xs ys : List ℕ) → EachBelow 256 xs → EachBelow 256 ys → EachBelow 256 (xs ++ ys)
both_bytes [] ys h i = i
both_bytes (x ∷ xs) ys h i = (h.0, both_bytes xs ys h.1 i)

word-bytes : (ws : List ℕ) → EachBelow 256 (joined (word_bytes ws))
unfolding word_bytes joined
word-bytes [] = tt
word-bytes (w ∷ ws) = both_bytes (low_bytes (w / 256 ∷ w ∷ [])) (joined (word_bytes ws)) (low-bytes (w / 256 ∷ w ∷ [])) (word-bytes ws)

-- the frame of a line `set`
pub write_bytes_lem : (a : ℕ) (ws : List ℕ) → EachBelow 256 (joined (write_bytes a ws))
unfolding write_bytes joined
write_bytes_lem a ws = both_bytes (low_bytes (a ∷ [])) (joined (word_bytes ws)) (low-bytes (a ∷ [])) (word-bytes ws)
