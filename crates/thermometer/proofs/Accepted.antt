-- Which tables are accepted, both ways.
use Prim.Native.Nat.{ℕ, zero, suc, ◌-◌, ◌≤◌, ◌<◌}
use native.Mathlib.Nat.{le_trans, le_of_lt}
use native.Mathlib.Omega.{arith}
use mathlib.Core.Path.{◌≡◌, refl, sym, ◌∙◌}
use mathlib.Core.Logic.{◌↔◌}
use mathlib.Core.Bool.{true, false}
use mathlib.Core.List.{List, [], ◌∷◌}
use lib.ListN.{length, get_or}
use lib.Dec.{leb}
use Rattle.unit.proofs.Cases.{by-test, by-ltb, fails, refuted}
use Rattle.thermometer.specs.Table.{is_rising, none_above, is_accepted}
use Rattle.thermometer.specs.Usable.{Usable}
use Rattle.thermometer.specs.Degrees.{last}
use Rattle.thermometer.proofs.Tests.{leb-means, both-means}
use Rattle.thermometer.proofs.Rise.{rises, rising-means}

-- "2 to 512 entries, strictly rising, none above 10,000,000"
pub record Accepted (table : List ℕ) : Type 0 where
  pub some : 2 ≤ length table
  pub few : length table ≤ 512
  pub rises : (i j : ℕ) → i < j → j < length table → get_or table i 0 < get_or table j 0
  pub bounded : (i : ℕ) → i < length table → get_or table i 0 ≤ 10000000

none-above-means :
    (limit : ℕ) (table : List ℕ) →
    (none_above limit table ≡ true) ↔ ((i : ℕ) → i < length table → get_or table i 0 ≤ limit)
unfolding none_above
none-above-means limit [] = (λ e i h. absurd (omega arith), λ h. refl)
none-above-means limit (e ∷ rest) =
    let m = both-means (leb e limit) (none_above limit rest) (leb-means e limit) (none-above-means limit rest) in
    (λ t. each (m.0 t), λ h. m.1 (h 0 (omega arith), λ i l. h (suc i) (omega arith)))
  where
    each :
        (e ≤ limit) × ((i : ℕ) → i < length rest → get_or rest i 0 ≤ limit) →
        (i : ℕ) →
        i < length (e ∷ rest) →
        get_or (e ∷ rest) i 0 ≤ limit
    each p zero l = p.0
    each p (suc i) l = p.1 i (omega arith)

pub accepted-means : (table : List ℕ) → (is_accepted table ≡ true) ↔ Accepted table
unfolding is_accepted
accepted-means table =
    let m =
    both-means _ _ (leb-means 2 (length table))
    (both-means _ _ (leb-means (length table) 512)
    (both-means _ _ (rising-means table) (none-above-means 10000000 table))) in (
      λ t. let p = m.0 t in record { some = p.0; few = p.1.0; rises = p.1.1.0; bounded = p.1.1.1 },
      λ a. m.1 (a.some, (a.few, (a.rises, a.bounded))),
    )

pub accepted-usable : (table : List ℕ) → is_accepted table ≡ true → Usable table
accepted-usable table t =
    let a = (accepted-means table).0 t in
    record { some = a.some; few = a.few; rises = (rising-means table).1 a.rises }

-- in a rising table the last entry is the largest
pub bounded-by-last :
    (table : List ℕ) →
    is_rising table ≡ true →
    last table ≤ 10000000 →
    (i : ℕ) →
    i < length table →
    get_or table i 0 ≤ 10000000
bounded-by-last table up l i h =
    by-ltb i (length table - 1)
    (λ b t. le_trans (le_of_lt (rises table up i (length table - 1) b (omega arith))) l)
    (λ b t. let end : i ≡ length table - 1 = omega arith in rw end l)

-- a check by its size, its last entry and its rise
module _ (table : List ℕ) where
  pub too_short : length table < 2 → false ≡ is_accepted table
  too_short h = rw (refuted (is_accepted table) (λ t. absurd (omega (arith, ((accepted-means table).0 t).some))))

  pub too_long : 512 < length table → false ≡ is_accepted table
  too_long h = rw (refuted (is_accepted table) (λ t. absurd (omega (arith, ((accepted-means table).0 t).few))))

  pub too-high : 2 ≤ length table → 10000000 < last table → false ≡ is_accepted table
  too-high n h =
      rw
      (refuted (is_accepted table)
      (λ t. absurd (omega (arith, ((accepted-means table).0 t).bounded (length table - 1) (omega arith)))))

  pub rise-decides : 2 ≤ length table → length table ≤ 512 → last table ≤ 10000000 → is_rising table ≡ is_accepted table
  rise-decides some few l =
      by-test (is_rising table)
      (λ t. rw (
        t,
        (accepted-means table).1 (record {
          some = some;
          few = few;
          rises = rises table t;
          bounded = bounded-by-last table t l;
        }),
      ))
      (λ t. let falls : is_rising table ≡ true → ⊥ = λ up. (fails true (λ (z : ⊥). z)).0 (sym up ∙ t) in
      rw (t, refuted (is_accepted table) (λ u. falls (accepted-usable table u).rises)))
