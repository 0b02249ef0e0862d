-- Values kept in a buffer, one behind the other. Assumes nothing.
use Rattle.std.specs.Prelude.{ℕ, ◌+◌, cond, List, [], ◌∷◌, ltb, length, set}

-- A buffer, and how many of its places are used.
pub record Kept (A : Type 0) : Type 0 where
  pub values : List A
  pub used : ℕ

-- one more, where there is room
unfoldable pub kept_one : {A : Type 0} → A → Kept A → Kept A
kept_one x k = cond (ltb k.used (length k.values)) record { values = set k.values k.used x; used = k.used + 1 } k

-- so for each
unfoldable pub kept_each : {A : Type 0} → List A → Kept A → Kept A
kept_each [] k = k
kept_each (x ∷ xs) k = kept_each xs (kept_one x k)
