-- Laws of the limits: the test of a list from a place on.
use Prim.Native.Nat.{ℕ, zero, suc, ◌+◌, ◌*◌, ◌/◌, ◌<◌}
use native.Mathlib.Nat.{div-lt_iff_lt-mul, mul_comm, zero-mul}
use native.Mathlib.Omega.{arith}
use native.Mathlib.Numerals.{add-one}
use mathlib.Core.Path.{◌≡◌}
use mathlib.Core.Bool.{Bool, true, false}
use mathlib.Core.List.{List}
use lib.ListN.{length, get_or, drop}
use lib.Seq.{drop-cons, drop-length}
use Rattle.unit.specs.Choice.{either}
use Rattle.hit.specs.Limit.{any_word}

-- the list from a place on is its word there and the rest
any_at :
    (test : ℕ → Bool) (ws : List ℕ) (i : ℕ) →
    i < length ws →
    any_word test (drop i ws) ≡ either (test (get_or ws i 0)) (any_word test (drop (i + 1) ws))
unfolding any_word
any_at test ws i h = rw (add-one, drop-cons ws i 0)

-- a loop that tests the words in turn: a word that meets the test, a word that does not, and the list's end
module _ (test : ℕ → Bool) (ws : List ℕ) (i : ℕ) (so_far : any_word test ws ≡ any_word test (drop i ws)) where
  pub any_found : i < length ws → test (get_or ws i 0) ≡ true → true ≡ any_word test ws
  any_found h t = rw (so_far, any_at test ws i h, t)

  pub any-passed : i < length ws → test (get_or ws i 0) ≡ false → any_word test ws ≡ any_word test (drop (i + 1) ws)
  any-passed h t = rw (so_far, any_at test ws i h, t)

  pub any_none : i ≡ length ws → false ≡ any_word test ws
  unfolding any_word
  any_none e = rw (so_far, e, drop-length ws)

-- a quotient is below a bound where the number is below its multiple
pub quotient-below : (x n b : ℕ) → x < n * b → x / n < b
quotient-below x n b h = (div-lt_iff_lt-mul {k = n} {x = x} {y = b} (positive n h)).1 (rw (mul_comm b n) h)
  where
    positive : (n : ℕ) → x < n * b → 0 < n
    positive zero h = absurd (omega (arith, rw zero-mul at h))
    positive (suc n) h = omega arith
