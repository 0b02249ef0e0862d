-- What the definitions mean in plain arithmetic: differences, their words, means rounded down, late, open and short.
use Prim.Native.Nat.{ℕ, zero, suc, ◌+◌, ◌-◌, ◌*◌, ◌/◌, ◌^◌, ◌≤◌, ◌<◌}
use native.Mathlib.Nat.{div-mul-le_self, lt-div-mul-add}
use native.Mathlib.Omega.{arith}
use mathlib.Core.Path.{◌≡◌, refl, ap}
use mathlib.Core.Logic.{◌↔◌, ◌⊎◌, inl, inr, ⊎_elim}
use mathlib.Core.Bool.{Bool, true, false}
use mathlib.Core.List.{List, [], ◌∷◌}
use lib.ListN.{length, get_or}
use lib.Dec.{leb, ltb, le→leb, lt→ltb, leb→le, ltb→lt}
use lib.IntN.{ℤ, pos, negsuc, neg_ℤ, suc_ℤ, ◌+ℤ◌, ◌*ℤ◌, +ℤ_one}
use lib.Signed.{shr_z, ◌≤ℤ◌, ◌<ℤ◌, le_z_yes, lt_z_yes}
use borrow.Author.Tests.{leb-true, le-leb, ltb-true, lt-ltb}
use mir.Syntax.{w32}
use mir.Val.{to_z, SFits}
use mir.Facts.{Fits-of_z, to_z-of_z}
use Rattle.unit.proofs.Cases.{by-ltb, by-test, fails, refuted}
use Rattle.unit.specs.declared.Quanta.{Quanta}
use Rattle.hit.specs.Limit.{late_from, open_from, short_below, any_word, any_from, any_below, any_fault}
use Rattle.hit.specs.Words.{average, six_total}
use Rattle.hit.specs.Mean.{All, sum, Averages, difference, total, floor_mean, floor_mean_words, difference_bits}
use Rattle.unit.proofs.Joined.{neither}
use Rattle.hit.proofs.Sum.{all-below, all_above}
use Rattle.hit.proofs.Integer.{sub-pos}

-- "TOF_DIFF = AVGUP − AVGDN"
pub difference-means : (a : Averages) → difference a +ℤ pos a.down ≡ pos a.up
unfolding difference
difference-means a =
    by-ltb a.up a.down
    (λ h t. rw t (sub-pos a.down (suc (a.down - suc a.up)) a.up (omega arith)))
    (λ h t. rw t (ap pos (omega arith)))

in-range : (z : ℤ) → negsuc 2147483647 ≤ℤ z → z <ℤ pos 2147483648 → SFits w32 z
in-range (pos n) l h = record { sfits = ltb→lt n 2147483648 h.lt }
in-range (negsuc n) l h = record { sfits = omega (arith, leb→le n 2147483647 l.le) }

-- "A difference is a 32-bit two's complement word"
pub bits-means :
    (z : ℤ) →
    negsuc 2147483647 ≤ℤ z →
    z <ℤ pos 2147483648 →
    (difference_bits z < 4294967296) × (to_z w32 (difference_bits z) ≡ z)
unfolding difference_bits
bits-means z l h = let f : SFits w32 z = in-range z l h in ((Fits-of_z f).fits, to_z-of_z f)

pub bits_positive : (n : ℕ) → difference_bits (pos n) ≡ n
unfolding difference_bits
bits_positive n = refl

pub bits-negative : (n : ℕ) → n < 2147483648 → difference_bits (negsuc n) + suc n ≡ 4294967296
unfolding difference_bits
bits-negative n h = omega arith

-- "rounded down"
floor : (s n : ℕ) → 0 < n → (s / n * n ≤ s) × (s < (s / n + 1) * n)
floor s n h = omega (arith, div-mul-le_self s n, lt-div-mul-add {a = s} h)

pub average-floor :
    (h : List ℕ) (n : ℕ) →
    0 < n →
    ((average h n).0 * n ≤ six_total h) × (six_total h < ((average h n).0 + 1) * n)
unfolding average
average-floor h n some = floor (six_total h) n some

pub words-floor :
    (ws : List ℕ) →
    0 < length ws →
    (floor_mean_words ws * length ws ≤ sum ws) × (sum ws < (floor_mean_words ws + 1) * length ws)
unfolding floor_mean_words
words-floor [] h = absurd (omega arith)
words-floor (w ∷ ws) h = floor (sum (w ∷ ws)) (length (w ∷ ws)) h

-- "rounded toward minus infinity"
below-zero : (x a : ℕ) → a < x → neg_ℤ (pos x) ≤ℤ negsuc a
below-zero zero a h = absurd (omega arith)
below-zero (suc x) a h = le_z_yes (le→leb a x (omega arith))

above-negative : (x a : ℕ) → x ≤ a → negsuc a <ℤ neg_ℤ (pos x)
above-negative zero a h = lt_z_yes tt
above-negative (suc x) a h = lt_z_yes (lt→ltb x a h)

shr-floor : (z : ℤ) (n : ℕ) → 0 < n → ((shr_z z n *ℤ pos n) ≤ℤ z) × (z <ℤ ((shr_z z n +ℤ pos 1) *ℤ pos n))
shr-floor (pos a) n h =
    let f : (a / n * n ≤ a) × (a < (a / n + 1) * n) = floor a n h in
    (le_z_yes (le→leb (a / n * n) a f.0), lt_z_yes (lt→ltb a ((a / n + 1) * n) f.1))
shr-floor (negsuc a) n h = rw +ℤ_one (go (a / n) (floor a n h))
  where
    go :
        (q : ℕ) →
        (q * n ≤ a) × (a < (q + 1) * n) →
        ((negsuc q *ℤ pos n) ≤ℤ negsuc a) × (negsuc a <ℤ (suc_ℤ (negsuc q) *ℤ pos n))
    go zero f = (below-zero (1 * n) a (omega arith), lt_z_yes tt)
    go (suc q) f =
        (below-zero (suc (suc q) * n) a (omega arith), above-negative (suc q * n) a (omega arith))

pub mean-floor :
    (ds : List ℤ) →
    0 < length ds →
    ((floor_mean ds *ℤ pos (length ds)) ≤ℤ total ds) × (total ds <ℤ ((floor_mean ds +ℤ pos 1) *ℤ pos (length ds)))
unfolding floor_mean
mean-floor [] h = absurd (omega arith)
mean-floor (d ∷ ds) h = shr-floor (total (d ∷ ds)) (length (d ∷ ds)) h

-- "A word is late when it is at least 512 × 2^k × 65,536, k = TIMOUT .., or no hit"
pub late-means : (k w : ℕ) → ((late_from k).0 ≤ w) ↔ ((512 * 2 ^ k * 65536 ≤ w) ⊎ (2147483648 ≤ w))
unfolding late_from
late-means k w = (
  λ h. by-ltb w (512 * 2 ^ k * 65536) (λ l t. inr (omega arith)) (λ l t. inl (omega arith)),
  ⊎_elim (λ l. omega arith) (λ l. omega arith),
)

-- "at least (512 × (PORTCYC + 1) − 8) × 65,536"
pub open-means :
    ((open_from 0).0 ≡ 33030144) ×
    ((open_from 1).0 ≡ 66584576) ×
    ((open_from 2).0 ≡ 100139008) ×
    ((open_from 3).0 ≡ 133693440)
unfolding open_from
open-means = (refl, refl, refl, refl)

-- "The converter sheet says a temperature reading below 8 µs is a short": w quanta are w × 250 ÷ 65,536 ns
pub short-means : (w : ℕ) → (w < short_below.0) ↔ (w * 250 < 8000 * 65536)
unfolding short_below
short-means w = (λ h. omega arith, λ h. omega arith)

-- no word is both
pub short-not-open : (cycle w : ℕ) → w < short_below.0 → w < (open_from cycle).0
unfolding short_below open_from
short-not-open cycle w h = omega arith

-- some word of a list meets a test: one at a place, and any place
any_place :
    (test : ℕ → Bool) (ws : List ℕ) →
    any_word test ws ≡ true →
    (i : ℕ) × (i < length ws) × (test (get_or ws i 0) ≡ true)
unfolding any_word
any_place test [] = λ f. absurd ((fails false (λ (z : ⊥). z)).0 f)
any_place test (w ∷ ws) =
    by-test (test w)
    (λ e. rw e (λ f. (0, omega arith, e)))
    (λ e. rw e (λ f. let p = any_place test ws f in (suc p.0, omega arith, p.2)))

any-at-place :
    (test : ℕ → Bool) (ws : List ℕ) (i : ℕ) →
    i < length ws →
    test (get_or ws i 0) ≡ true →
    any_word test ws ≡ true
unfolding any_word
any-at-place test [] i h t = absurd (omega arith)
any-at-place test (w ∷ ws) zero h t = rw t
any-at-place test (w ∷ ws) (suc i) h t =
    by-test (test w) (λ e. rw e) (λ e. rw e (any-at-place test ws i (omega arith) t))

module _ (limit : Quanta) (ws : List ℕ) where
  pub from-means : (any_from limit ws ≡ true) ↔ ((i : ℕ) × (i < length ws) × (limit.0 ≤ get_or ws i 0))
  unfolding any_from
  from-means = (
    λ e. let p = any_place (λ w. leb limit.0 w) ws e in (p.0, p.1, leb-true limit.0 (get_or ws p.0 0) p.2),
    λ p. any-at-place (λ w. leb limit.0 w) ws p.0 p.1 (le-leb limit.0 (get_or ws p.0 0) p.2),
  )

  pub below-means : (any_below limit ws ≡ true) ↔ ((i : ℕ) × (i < length ws) × (get_or ws i 0 < limit.0))
  unfolding any_below
  below-means = (
    λ e. let p = any_place (λ w. ltb w limit.0) ws e in (p.0, p.1, ltb-true (get_or ws p.0 0) limit.0 p.2),
    λ p. any-at-place (λ w. ltb w limit.0) ws p.0 p.1 (lt-ltb (get_or ws p.0 0) limit.0 p.2),
  )

all-at : (P : ℕ → Type 0) (ws : List ℕ) → All P ws → (i : ℕ) → i < length ws → P (get_or ws i 0)
all-at P [] h i l = absurd (omega arith)
all-at P (w ∷ ws) h zero l = h.0
all-at P (w ∷ ws) h (suc i) l = all-at P ws h.1 i (omega arith)

-- "over cycles where all four words are neither short nor open"
pub whole-means :
    (limit : Quanta) (ws : List ℕ) →
    (any_fault limit ws ≡ false) ↔ ((i : ℕ) → i < length ws → (32 * 65536 ≤ get_or ws i 0) × (get_or ws i 0 < limit.0))
unfolding any_fault short_below
whole-means limit ws = (
  λ e i l.
      let f = neither (any_from limit ws) (any_below short_below ws) e in (
        all-at (λ w. short_below.0 ≤ w) ws (all_above short_below ws f.1) i l,
        all-at (λ w. w < limit.0) ws (all-below limit ws f.0) i l,
      ),
  λ h.
      rw (
        refuted (any_from limit ws) (λ e. let p = (from-means limit ws).0 e in omega (arith, h p.0 p.1)),
        refuted (any_below short_below ws) (λ e. let p = (below-means short_below ws).0 e in omega (arith, h p.0 p.1)),
      ),
)
