-- PT1000: the rule of its entries, and their rise.
use Prim.Native.Nat.{ℕ, zero, suc, ◌+◌, ◌*◌, ◌≤◌, ◌<◌}
use native.Mathlib.Nat.{mul-le-mul_left, mul-le-mul_right, le_trans}
use native.Mathlib.Omega.{arith}
use native.Mathlib.Numerals.{add-one}
use mathlib.Core.Path.{◌≡◌, refl, ap, sym, ◌∙◌}
use mathlib.Core.Bool.{Bool, true}
use mathlib.Core.List.{List}
use lib.ListN.{length, get_or}
use lib.Seq.{ext_get_or}
use lib.Dec.{ltb, eqb}
use Rattle.unit.specs.Choice.{both}
use Rattle.thermometer.specs.Table.{entry, entries, pt1000}
use Rattle.thermometer.specs.Usable.{Usable}
use Rattle.thermometer.proofs.Tests.{eqb-means, ltb-means, both-means, every, every-at}
use Rattle.thermometer.specs.Degrees.{thousandths, last}
use Rattle.thermometer.proofs.Rise.{rising-of}
use Rattle.thermometer.proofs.Meaning.{at_entry, at_last}

-- "to the nearest whole, halves up": 10,000 × the entry lies at most 5,000 above the sum and less than 5,000 below it
pub entry-nearest :
    (t : ℕ) →
    t ≤ 180 →
    (10000 * entry t + 5775 * (t * t) ≤ 10000000000 + 39083000 * t + 5000) ×
    (10000000000 + 39083000 * t < 10000 * entry t + 5775 * (t * t) + 5000)
unfolding entry
entry-nearest t h =
    let square : t * t ≤ 180 * 180 = le_trans (mul-le-mul_left t h) (mul-le-mul_right 180 h) in omega arith

-- "Entry 100 is 1,385,055."
pub entry-100 : entry 100 ≡ 1385055
unfolding entry
entry-100 = refl

entries-length : (n t : ℕ) → length (entries n t) ≡ n
unfolding entries
entries-length zero t = refl
entries-length (suc n) t = ap suc (entries-length n (t + 1))

entries_at : (n t k : ℕ) → k < n → get_or (entries n t) k 0 ≡ entry (t + k)
unfolding entries
entries_at zero t k h = absurd (omega arith)
entries_at (suc n) t zero h = ap entry (omega arith)
entries_at (suc n) t (suc k) h = entries_at n (t + 1) k (omega arith) ∙ ap entry (omega arith)

-- "a constant table of PT1000 for each whole degree from 0 to 180"
pub pt1000-length : length pt1000 ≡ 181
unfolding pt1000
pt1000-length = entries-length 181 0

pub pt1000-at : (t : ℕ) → t ≤ 180 → get_or pt1000 t 0 ≡ entry t
unfolding pt1000
pt1000-at t h = entries_at 181 0 t (omega arith) ∙ ap entry (omega arith)

-- "The table's rule and its rise are shown over all entries by one test": each entry is the rule's, and below the rule's
-- next one
right : ℕ → ℕ → Bool
right t x = both (eqb x (entry t)) (ltb x (entry (t + 1)))

unfoldable pub passes : List ℕ → Bool
unfolding right entry
passes xs = both (eqb (length xs) 181) (every right 0 xs)

-- the test as statements
passes-length : (xs : List ℕ) → passes xs ≡ true → (length xs ≡ 181) × (every right 0 xs ≡ true)
unfolding passes
passes-length xs h = (both-means _ _ (eqb-means (length xs) 181) (λ e. e, λ e. e)).0 h

passes_at :
    (xs : List ℕ) →
    passes xs ≡ true →
    (t : ℕ) →
    t ≤ 180 →
    (get_or xs t 0 ≡ entry t) × (get_or xs t 0 < entry (t + 1))
unfolding right
passes_at xs h t l =
    let p = passes-length xs h in
    (both-means _ _ (eqb-means (get_or xs t 0) (entry t)) (ltb-means (get_or xs t 0) (entry (t + 1)))).0
    (ap (λ (m : ℕ). right m (get_or xs t 0)) (omega arith) ∙ every-at right xs 0 p.1 t (omega arith))

-- a list that passes is the table
pub passed-same : (xs : List ℕ) → passes xs ≡ true → xs ≡ pt1000
passed-same xs h =
    let n = (passes-length xs h).0 in
    ext_get_or 0 xs pt1000 (n ∙ sym pt1000-length)
    (λ t l. (passes_at xs h t (omega arith)).0 ∙ sym (pt1000-at t (omega arith)))

-- and rises
pub passed-usable : (xs : List ℕ) → passes xs ≡ true → Usable xs
passed-usable xs h =
    let n = (passes-length xs h).0 in record {
      some = omega arith;
      few = omega arith;
      rises =
          rising-of xs
          (λ t l.
          rw ((passes_at xs h (suc t) (omega arith)).0, ← add-one t) (passes_at xs h t (omega arith)).1);
    }

pub pt1000-usable : Usable pt1000
unfolding passes pt1000 entries
pt1000-usable = passed-usable pt1000 refl

-- "Entry 100 is 1,385,055", and answers 100 degrees
pub pt1000-100 : (get_or pt1000 100 0 ≡ 1385055) × (thousandths pt1000 1385055 ≡ 100000)
pt1000-100 =
    let entry : get_or pt1000 100 0 ≡ 1385055 = pt1000-at 100 (omega arith) ∙ entry-100 in
    (entry, rw entry at (at_entry pt1000 pt1000-usable.rises 100 (omega (arith, pt1000-length))))

-- "the last entry itself answers 180,000"
pub pt1000-last : thousandths pt1000 (last pt1000) ≡ 180000
pt1000-last =
    at_last pt1000 pt1000-usable.rises (omega (arith, pt1000-length)) ∙ omega (arith, pt1000-length)
