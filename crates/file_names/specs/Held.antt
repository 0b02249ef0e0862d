-- The start of a name that comes in byte by byte. Assumes nothing.
use Rattle.std.specs.Prelude.{ℕ, ◌+◌, min, ◌≡◌, cond, List, ltb, length, take, set}

-- One byte more behind the n that a buffer holds, where it has room.
unfoldable pub held_bytes : List ℕ → ℕ → ℕ → List ℕ
held_bytes l n b = cond (ltb n (length l)) (set l n b) l

unfoldable pub held_count : List ℕ → ℕ → ℕ
held_count l n = cond (ltb n (length l)) (n + 1) n

-- A buffer holds as much of the start of a name as it has room for.
pub record Held (l : List ℕ) (n : ℕ) (cs : List ℕ) : Type 0 where
  pub count : n ≡ min (length l) (length cs)
  pub bytes : take n l ≡ take (length l) cs
