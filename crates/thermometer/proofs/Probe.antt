-- The caller's own table: number 14, number 13 after it, and the built-in table among those that are accepted.
use Prim.Native.Nat.{ℕ, ◌-◌, ◌*◌, ◌≤◌}
use native.Mathlib.Omega.{arith}
use mathlib.Core.Path.{◌≡◌, ap, sym, ◌∙◌}
use mathlib.Core.Logic.{◌↔◌}
use mathlib.Core.Bool.{false}
use mathlib.Core.List.{List, [], ◌∷◌}
use lib.ListN.{length}
use Rattle.unit.proofs.Cases.{by-test, refuted}
use Rattle.std.specs.Prelude.{Ok, Err}
use Rattle.refusal.specs.declared.Refusal.{Refusal}
use Rattle.refusal.specs.Number.{number, number_told, value_told}
use Rattle.thermometer.specs.Table.{entry, pt1000, is_accepted}
use Rattle.thermometer.specs.Degrees.{resistance, thousandths, last, off_table, degrees_over, degrees_by}
use Rattle.thermometer.proofs.Rise.{rises}
use Rattle.thermometer.proofs.Pt1000.{pt1000-length, pt1000-at, pt1000-usable}
use Rattle.thermometer.proofs.Meaning.{at_last}
use Rattle.thermometer.proofs.Refusal.{OffTable, number-13, answer-means}
use Rattle.thermometer.proofs.Accepted.{Accepted, accepted-means, accepted-usable, bounded-by-last}

-- no answer over a table has number 14
not-14 : (table : List ℕ) (a b : ℕ) → ¬ (number_told (degrees_over table a b) ≡ 14 ∷ [])
unfolding degrees_over
not-14 table a b =
    by-test (off_table table a b)
    (λ t. rw t (λ e. let z : ◌≡◌ {A = ℕ} 13 14 = cc in omega arith))
    (λ t. rw t (λ e. let z : ◌≡◌ {A = ℕ} 0 1 = cc in omega arith))

module _ (table : List ℕ) (a b : ℕ) where
  -- "The formula and number 13 of the built-in table serve every accepted table"
  pub by-accepted : Accepted table → degrees_by table a b ≡ degrees_over table a b
  unfolding degrees_by
  by-accepted h = rw ((accepted-means table).1 h)

  refused-then : is_accepted table ≡ false → degrees_by table a b ≡ Err Refusal.BadTable
  unfolding degrees_by
  refused-then t = rw t

  pub by-refused : ¬ Accepted table → degrees_by table a b ≡ Err Refusal.BadTable
  by-refused n = refused-then (refuted (is_accepted table) (λ t. n ((accepted-means table).0 t)))

  -- "Turned away: number 14, bad table, .. for any table failing these", exactly then
  pub number-14 : (number_told (degrees_by table a b) ≡ 14 ∷ []) ↔ (¬ Accepted table)
  number-14 = (
    λ n h. not-14 table a b (ap number_told (sym (by-accepted h)) ∙ n),
    λ n. ap number_told (by-refused n),
  )

  -- number 13 exactly for an accepted table where it is off it: 14 is given "before number 13"
  pub number-13-by : (number_told (degrees_by table a b) ≡ 13 ∷ []) ↔ (Accepted table × OffTable table a b)
  number-13-by = (
    λ n. by-test (is_accepted table)
        (λ t. let h = (accepted-means table).0 t in
        (h, (number-13 table a b).0 (ap number_told (sym (by-accepted h)) ∙ n)))
        (λ t. let e : 14 ∷ [] ≡ 13 ∷ [] = sym (ap number_told (refused-then t)) ∙ n in
        let z : ◌≡◌ {A = ℕ} 14 13 = cc in
        absurd (omega arith)),
    λ p. ap number_told (by-accepted p.0) ∙ (number-13 table a b).1 p.1,
  )

  pub answer-by :
      Accepted table →
      ¬ OffTable table a b →
      (number_told (degrees_by table a b) ≡ []) ×
      (value_told (degrees_by table a b) ≡ thousandths table (resistance a b) ∷ [])
  answer-by h n = rw (by-accepted h) (answer-means table a b n)

  -- "The last entry of an n-entry table answers 1,000 × (n − 1)."
  pub last-by :
      Accepted table →
      ¬ OffTable table a b →
      resistance a b ≡ last table →
      value_told (degrees_by table a b) ≡ 1000 * (length table - 1) ∷ []
  last-by h n e =
      (answer-by h n).1 ∙
      ap (λ (t : ℕ). t ∷ [])
      (ap (thousandths table) e ∙
      at_last table (accepted-usable table ((accepted-means table).1 h)).rises (omega (arith, h.some)))

-- "and ours is one such"
pt1000-bounded : last pt1000 ≤ 10000000
unfolding entry
pt1000-bounded = rw pt1000-length (omega (arith, pt1000-at 180 (omega arith)))

pub pt1000-accepted : Accepted pt1000
pt1000-accepted =
    let up = pt1000-usable.rises in record {
      some = pt1000-usable.some;
      few = pt1000-usable.few;
      rises = rises pt1000 up;
      bounded = bounded-by-last pt1000 up pt1000-bounded;
    }

pub built_in : (a b : ℕ) → degrees_by pt1000 a b ≡ degrees_over pt1000 a b
built_in a b = by-accepted pt1000 a b pt1000-accepted
