-- Laws of sums: the six words by value sum to the delivered list, and words below a limit have a sum below its multiple.
use Prim.Native.Nat.{ℕ, ◌+◌, ◌-◌, ◌*◌, ◌≤◌, ◌<◌}
use native.Mathlib.Nat.{mul-le-mul_left, le-mul_of_pos_right}
use native.Mathlib.Omega.{arith}
use mathlib.Core.Path.{◌≡◌, refl}
use mathlib.Core.Bool.{Bool, false}
use mathlib.Core.List.{List, [], ◌∷◌}
use lib.ListN.{length}
use lib.Dec.{leb, ltb}
use lib.Pow.{pow_pos}
use borrow.Author.Tests.{leb-false, ltb-false}
use Rattle.unit.proofs.Joined.{neither}
use Rattle.unit.specs.declared.Quanta.{Quanta}
use Rattle.hit.specs.Limit.{any_word, any_from, any_below, late_from}
use Rattle.hit.specs.Words.{word_or_zero, six_words, six_total}
use Rattle.hit.specs.Mean.{All, sum}

pub six-total : (ws : List ℕ) → length ws ≤ 6 → six_total (six_words ws) ≡ sum ws
unfolding six_total six_words word_or_zero sum
six-total [] h = refl
six-total (a ∷ []) h = omega arith
six-total (a ∷ b ∷ []) h = omega arith
six-total (a ∷ b ∷ c ∷ []) h = omega arith
six-total (a ∷ b ∷ c ∷ d ∷ []) h = omega arith
six-total (a ∷ b ∷ c ∷ d ∷ e ∷ []) h = omega arith
six-total (a ∷ b ∷ c ∷ d ∷ e ∷ f ∷ []) h = omega arith
six-total (a ∷ b ∷ c ∷ d ∷ e ∷ f ∷ g ∷ ws) h = absurd (omega arith)

-- where no word meets a test, each fails it; so it is below a limit that none is at
none-meets : (test : ℕ → Bool) (ws : List ℕ) → any_word test ws ≡ false → All (λ w. test w ≡ false) ws
unfolding any_word
none-meets test [] e = tt
none-meets test (w ∷ ws) e =
    let f = neither (test w) (any_word test ws) e in (f.0, none-meets test ws f.1)

all-by : {P Q : ℕ → Type 0} → ((w : ℕ) → P w → Q w) → (ws : List ℕ) → All P ws → All Q ws
all-by f [] h = tt
all-by f (w ∷ ws) h = (f w h.0, all-by f ws h.1)

pub all-below : (b : Quanta) (ws : List ℕ) → any_from b ws ≡ false → All (λ w. w < b.0) ws
unfolding any_from
all-below b ws e = all-by (λ w t. leb-false b.0 w t) ws (none-meets (λ w. leb b.0 w) ws e)

pub all_above : (b : Quanta) (ws : List ℕ) → any_below b ws ≡ false → All (λ w. b.0 ≤ w) ws
unfolding any_below
all_above b ws e = all-by (λ w t. ltb-false w b.0 t) ws (none-meets (λ w. ltb w b.0) ws e)

-- each word is at most the limit less one
pub sum-short : (b : ℕ) (ws : List ℕ) → All (λ w. w < b) ws → sum ws + length ws ≤ length ws * b
unfolding sum
sum-short b [] h = omega arith
sum-short b (w ∷ ws) h = omega (arith, sum-short b ws h.1)

pub sum_below :
    (b : Quanta) (n : ℕ) (ws : List ℕ) →
    any_from b ws ≡ false →
    length ws ≤ n →
    0 < n →
    0 < b.0 →
    sum ws < n * b.0
sum_below b n ws e l some h = go (n - length ws) (omega arith)
  where
    go : (k : ℕ) → n ≡ k + length ws → sum ws < n * b.0
    go k d = rw d (omega (arith, sum-short b.0 ws (all-below b ws e), le-mul_of_pos_right k h))

pub late-most : (k : ℕ) → (0 < (late_from k).0) × ((late_from k).0 ≤ 2147483648)
unfolding late_from
late-most k = omega (arith, pow_pos k)

-- the sum of the six words of a list of n, none of them late
pub hits-fit :
    (k n : ℕ) (ws : List ℕ) →
    length ws ≤ n →
    0 < n →
    n ≤ 6 →
    any_from (late_from k) ws ≡ false →
    six_total (six_words ws) < n * 2147483648
hits-fit k n ws l some most e =
    rw (six-total ws (omega arith))
    (omega
    (arith, sum_below (late_from k) n ws e l some (late-most k).0, mul-le-mul_left n (late-most k).1))
