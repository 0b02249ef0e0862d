-- A set-up's words, as the types of a model bound them.
use Prim.Native.Nat.{ℕ, ◌<◌}
use mathlib.Core.List.{List}
use mathlib.Core.Path.{◌≡◌}
use lib.ListN.{length, get_or}

-- "sixteen words", of 16 bits as every model's registers have them
pub record Words (s : List ℕ) : Type 0 where
  pub sixteen : length s ≡ 16
  pub below : (i : ℕ) → i < 16 → get_or s i 0 < 65536
