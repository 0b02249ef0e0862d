-- Tables whose entries rise: the test of neighbours, and the order of any two.
use Prim.Native.Nat.{ℕ, zero, suc, ◌+◌, ◌-◌, ◌≤◌, ◌<◌}
use native.Mathlib.Nat.{le_refl, le_trans, le_of_lt, lt_of_lt_of_le}
use native.Mathlib.Omega.{arith}
use native.Mathlib.Numerals.{add-one}
use mathlib.Core.Path.{◌≡◌, refl, sym}
use mathlib.Core.Logic.{◌↔◌}
use mathlib.Core.Bool.{Bool, true, false}
use mathlib.Core.List.{List, [], ◌∷◌}
use lib.ListN.{length, get_or}
use lib.Dec.{ltb, leb}
use borrow.Author.Tests.{ltb-true, lt-ltb, true-ltb, false-ltb, leb-true, leb-false}
use Rattle.std.specs.List.{IsAllAdjacentAnswer}
use Rattle.std.specs.List.Sorted.{IsPartitionPoint, IsPartitionedBy}
use Rattle.std.proofs.lemmas.List.Sorted.{IsPartitionedBy-leb, IsNonDecreasingBy-from_default}
use Rattle.unit.proofs.Cases.{by-test, by-ltb, fails, refuted}
use Rattle.thermometer.specs.Degrees.{Between, first, last}
use Rattle.thermometer.specs.Table.{is_rising}

-- the first two entries, and the rest
pub rising-cons : (e f : ℕ) (rest : List ℕ) → is_rising (e ∷ f ∷ rest) ≡ true → (e < f) × (is_rising (f ∷ rest) ≡ true)
unfolding is_rising
rising-cons e f rest =
    by-test (ltb e f) (λ t. rw t (λ h. (ltb-true e f t, h))) (λ t. rw t (λ h. absurd ((fails false (λ (z : ⊥). z)).0 h)))

-- no entry is below the first
pub first-least :
    (e : ℕ) (rest : List ℕ) →
    is_rising (e ∷ rest) ≡ true →
    (i : ℕ) →
    i < length (e ∷ rest) →
    e ≤ get_or (e ∷ rest) i 0
first-least e rest up zero h = le_refl e
first-least e [] up (suc i) h = absurd (omega arith)
first-least e (f ∷ rest) up (suc i) h =
    let both = rising-cons e f rest up in
    le_trans (le_of_lt both.0) (first-least f rest both.1 i (omega arith))

-- "strictly rising": any two entries
pub rises :
    (table : List ℕ) →
    is_rising table ≡ true →
    (i j : ℕ) →
    i < j →
    j < length table →
    get_or table i 0 < get_or table j 0
rises [] up i j l h = absurd (omega arith)
rises (e ∷ rest) up i zero l h = absurd (omega arith)
rises (e ∷ []) up i (suc j) l h = absurd (omega arith)
rises (e ∷ f ∷ rest) up zero (suc j) l h =
    let both = rising-cons e f rest up in lt_of_lt_of_le both.0 (first-least f rest both.1 j (omega arith))
rises (e ∷ f ∷ rest) up (suc i) (suc j) l h =
    rises (f ∷ rest) (rising-cons e f rest up).1 i j (omega arith) (omega arith)

-- a table whose neighbours rise passes the test
pub rising-of :
    (table : List ℕ) →
    ((i : ℕ) → suc i < length table → get_or table i 0 < get_or table (suc i) 0) →
    is_rising table ≡ true
unfolding is_rising
rising-of [] up = refl
rising-of (e ∷ []) up = refl
rising-of (e ∷ f ∷ rest) up =
    rw (lt-ltb e f (up 0 (omega arith))) (rising-of (f ∷ rest) (λ i h. up (suc i) (omega arith)))

-- "strictly rising", both ways
pub rising-means :
    (table : List ℕ) →
    (is_rising table ≡ true) ↔ ((i j : ℕ) → i < j → j < length table → get_or table i 0 < get_or table j 0)
rising-means table = (rises table, λ up. rising-of table (λ i h. up i (suc i) (omega arith) h))

-- what the library's test of neighbours answers
pub rising-answered :
    (table : List ℕ) (answer : Bool) → IsAllAdjacentAnswer (λ x y b. b ≡ ltb x y) table answer → answer ≡ is_rising table
rising-answered table true all = sym (rising-of table (λ i h. true-ltb _ _ (rw (← add-one i) (all i 0 (omega arith)))))
rising-answered table false some =
    let k = some.0 in
    sym
    (refuted (is_rising table)
    (λ up. absurd (omega (arith, rises table up k (k + 1) (omega arith) some.1, false-ltb _ _ (some.2 0)))))

-- where the entries at most r end
pub rising-parted : (table : List ℕ) (r : ℕ) → is_rising table ≡ true → IsPartitionedBy (λ e. leb e r) table
rising-parted table r up =
    IsPartitionedBy-leb (λ e. e) table r
    (IsNonDecreasingBy-from_default (λ e. e) table 0
    (λ i j l h. by-ltb i j (λ b t. le_of_lt (rises table up i j b h)) (λ b t. let same : i ≡ j = omega arith in rw same (le_refl _))))

pub point-between :
    (table : List ℕ) (r n : ℕ) →
    2 ≤ length table →
    first table ≤ r →
    r < last table →
    n ≤ length table →
    IsPartitionPoint (λ e. leb e r ≡ true) (λ e. leb e r ≡ false) table n →
    (1 ≤ n) × Between table (n - 1) r
point-between table r n two low high fits parts =
    let some : 1 ≤ n =
    by-ltb 0 n (λ b t. b) (λ b t. absurd (omega (arith, leb-false _ _ (parts.1 0 0 (omega arith) (omega arith)))))
    in
    let room : n < length table =
    by-ltb n (length table) (λ b t. b)
    (λ b t. absurd (omega (arith, leb-true _ _ (parts.0 (length table - 1) 0 (omega arith) (omega arith)))))
    in
    let next : n - 1 + 1 ≡ n = omega arith in (
      some,
      rw next (room, leb-true _ _ (parts.0 (n - 1) 0 (omega arith) (omega arith)), leb-false _ _ (parts.1 n 0 (omega arith) room)),
    )
