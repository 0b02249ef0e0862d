-- Laws of differences and means: the machine's words, by biased sums, are the two's complement words of the plain ones.
use Prim.Native.Nat.{ℕ, suc, ◌+◌, ◌-◌, ◌*◌, ◌/◌, ◌%◌, ◌≤◌, ◌<◌}
use native.Mathlib.Nat.{div-le_of_le-mul, mod-eq_of_lt}
use native.Mathlib.Omega.{arith}
use mathlib.Core.Path.{◌≡◌, refl}
use mathlib.Core.List.{List, [], ◌∷◌, map}
use lib.ListN.{length, length-map}
use lib.Dec.{eqb, eqb-suc-zero}
use lib.IntN.{sub_ℕ}
use mir.Syntax.{w32}
use mir.Val.{SFits, to_z}
use mir.Facts.{to_z-of_z}
use Rattle.unit.specs.Choice.{pick}
use Rattle.unit.proofs.Cases.{by-ltb, by_eqb}
use Rattle.unit.specs.declared.Quanta.{Quanta}
use Rattle.hit.specs.Mean.{All, sum, Averages, difference, total, floor_mean, difference_bits, floor_mean_words, mean_averages}
use Rattle.hit.specs.Difference.{difference_word, biased, difference_mean, port_mean}
use Rattle.hit.specs.Biased.{InRange, biased_total}
use Rattle.hit.proofs.Sum.{sum-short}
use Rattle.hit.proofs.Integer.{sub-sum, sub_same, shr-sub}

pub difference-word :
    (up down : Quanta) →
    up.0 < 2147483648 →
    down.0 < 2147483648 →
    difference_word up down ≡ difference_bits (sub_ℕ up.0 down.0)
unfolding difference_word difference_bits
difference-word up down h k = by-ltb up.0 down.0 (λ l t. rw t (omega arith)) (λ l t. rw t (omega arith))

biased-most : (good : List Averages) → All InRange good → biased_total good ≤ length good * 4294967295
unfolding biased_total biased
biased-most [] h = omega arith
biased-most (a ∷ good) h = omega (arith, biased-most good h.1)

pub biased-fits : (good : List Averages) → All InRange good → biased_total good ≤ length good * 4294967296
biased-fits good h = omega (arith, biased-most good h)

-- the sum of the differences is the machine's, less 2^31 for each
pub total-biased :
    (good : List Averages) →
    All InRange good →
    total (map difference good) ≡ sub_ℕ (biased_total good) (length good * 2147483648)
unfolding total difference biased_total biased
total-biased [] h = refl
total-biased (a ∷ good) h =
    let s : ℕ = biased_total good in
    let n : ℕ = length good * 2147483648 in
    rw (total-biased good h.1, sub-sum)
    (sub_same (a.up + s) (a.down + n) (a.up + 2147483648 - a.down + s) (suc (length good) * 2147483648) (omega arith))

-- the word of a mean, from the mean with 2^31 added
word_of : (q : ℕ) → difference_bits (sub_ℕ q 2147483648) % 4294967296 ≡ (q % 4294967296 + 2147483648) % 4294967296
unfolding difference_bits
word_of q = by-ltb q 2147483648 (λ l t. rw t (omega arith)) (λ l t. rw t (omega arith))

-- The mean as the code has it: the floor of a sum without a sign is its quotient.
pub mean-unsigned :
    (s : Quanta) (n : ℕ) →
    difference_mean s n ≡ pick (eqb n 0) 0 ((s.0 / n % 4294967296 + 2147483648) % 4294967296)
unfolding difference_mean
mean-unsigned s n =
    by_eqb n 0 (λ e t. rw t) (λ e t. rw (t, shr-sub s.0 n 2147483648 (omega arith)) (word_of (s.0 / n)))

rebased : (q : ℕ) → q ≤ 4294967295 → (q % 4294967296 + 2147483648) % 4294967296 ≡ difference_bits (sub_ℕ q 2147483648)
unfolding difference_bits
rebased q h = by-ltb q 2147483648 (λ l t. rw t (omega arith)) (λ l t. rw t (omega arith))

mean-quotient :
    (a : Averages) (good : List Averages) →
    All InRange (a ∷ good) →
    mean_averages (a ∷ good) ≡ sub_ℕ (biased_total (a ∷ good) / suc (length good)) 2147483648
unfolding mean_averages floor_mean
mean-quotient a good h =
    rw (length-map good difference, total-biased (a ∷ good) h)
    (shr-sub (biased_total (a ∷ good)) (suc (length good)) 2147483648 (omega arith))

quotient-most :
    (a : Averages) (good : List Averages) →
    All InRange (a ∷ good) →
    biased_total (a ∷ good) / suc (length good) ≤ 4294967295
quotient-most a good h = div-le_of_le-mul (suc (length good)) (biased-most (a ∷ good) h)

pub mean-word :
    (good : List Averages) →
    All InRange good →
    difference_mean (record { 0 = biased_total good }) (length good) ≡ difference_bits (mean_averages good)
unfolding difference_mean mean_averages floor_mean difference_bits
mean-word [] h = refl
mean-word (a ∷ good) h =
    rw (mean-unsigned (record { 0 = biased_total (a ∷ good) }) (suc (length good)), eqb-suc-zero (length good), mean-quotient a good h)
    (rebased (biased_total (a ∷ good) / suc (length good)) (quotient-most a good h))

-- the mean is in the range of a word, which gives it back
rebased-fits : (q : ℕ) → q ≤ 4294967295 → SFits w32 (sub_ℕ q 2147483648)
rebased-fits q h =
    by-ltb q 2147483648
    (λ l t. rw t (record { sfits = omega arith }))
    (λ l t. rw t (record { sfits = omega arith }))

pub mean-fits : (good : List Averages) → All InRange good → SFits w32 (mean_averages good)
unfolding mean_averages floor_mean
mean-fits [] h = record { sfits = omega arith }
mean-fits (a ∷ good) h =
    rw (mean-quotient a good h)
    (rebased-fits (biased_total (a ∷ good) / suc (length good)) (quotient-most a good h))

pub mean-reads :
    (good : List Averages) →
    All InRange good →
    to_z w32 (difference_mean (record { 0 = biased_total good }) (length good)) ≡ mean_averages good
unfolding difference_bits
mean-reads good h = rw (mean-word good h) (to_z-of_z (mean-fits good h))

pub port-mean : (s : Quanta) (n : ℕ) → s.0 ≤ n * 2147483648 → port_mean s n ≡ pick (eqb n 0) 0 (s.0 / n)
unfolding port_mean
port-mean s n h = rw (mod-eq_of_lt {n = s.0 / n} {m = 4294967296} (omega (arith, div-le_of_le-mul n {m = s.0} h)))

pub words-fit : (ws : List ℕ) → All (λ w. w < 2147483648) ws → sum ws ≤ length ws * 2147483648
words-fit ws h = omega (arith, sum-short 2147483648 ws h)

pub port-mean-words :
    (ws : List ℕ) →
    All (λ w. w < 2147483648) ws →
    port_mean (record { 0 = sum ws }) (length ws) ≡ floor_mean_words ws
unfolding floor_mean_words
port-mean-words [] h = port-mean (record { 0 = sum [] }) 0 (words-fit [] h)
port-mean-words (w ∷ ws) h =
    rw (port-mean (record { 0 = sum (w ∷ ws) }) (suc (length ws)) (words-fit (w ∷ ws) h), eqb-suc-zero (length ws))
