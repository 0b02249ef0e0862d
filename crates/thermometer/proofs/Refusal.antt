-- Number 13, both ways.
use Prim.Native.Nat.{ℕ, ◌<◌}
use mathlib.Core.Path.{◌≡◌, refl, ap}
use mathlib.Core.Logic.{◌↔◌, ◌⊎◌}
use mathlib.Core.Bool.{Bool, true, false}
use mathlib.Core.List.{List, [], ◌∷◌}
use native.Mathlib.Omega.{arith}
use Rattle.unit.specs.Choice.{pick}
use Rattle.unit.proofs.Cases.{fails, refuted}
use Rattle.std.specs.Prelude.{Ok, Err}
use Rattle.refusal.specs.declared.Refusal.{Refusal}
use Rattle.refusal.specs.Number.{number, number_told, value_told}
use Rattle.thermometer.specs.Degrees.{resistance, thousandths, first, last, off_table, degrees_over}
use Rattle.thermometer.proofs.Tests.{eqb-means, ltb-means, either-means}

-- "either word is FFFFFFFFh, b is 0, or the resistance is below the first or above the last entry"
abbrev pub OffTable : List ℕ → ℕ → ℕ → Type 0
OffTable table a b =
    (a ≡ 0xFFFFFFFF) ⊎
    (b ≡ 0xFFFFFFFF) ⊎
    (b ≡ 0) ⊎
    (resistance a b < first table) ⊎
    (last table < resistance a b)

pub off-means : (table : List ℕ) (a b : ℕ) → (off_table table a b ≡ true) ↔ OffTable table a b
unfolding off_table
off-means table a b =
    either-means _ _ (eqb-means a 0xFFFFFFFF)
    (either-means _ _ (eqb-means b 0xFFFFFFFF)
    (either-means _ _ (eqb-means b 0)
    (either-means _ _ (ltb-means (resistance a b) (first table)) (ltb-means (last table) (resistance a b)))))

pub off-refused : (table : List ℕ) (a b : ℕ) → OffTable table a b → degrees_over table a b ≡ Err Refusal.OffTable
unfolding degrees_over
off-refused table a b h = rw ((off-means table a b).1 h)

pub on-answered :
    (table : List ℕ) (a b : ℕ) →
    ¬ OffTable table a b →
    degrees_over table a b ≡ Ok (thousandths table (resistance a b))
unfolding degrees_over
on-answered table a b n = rw (refuted (off_table table a b) (λ h. n ((off-means table a b).0 h)))

-- a refusal by a test has its number exactly where the test holds
pub refused-by : (t : Bool) (r : Refusal) (v : ℕ) → (number_told (pick t (Err r) (Ok v)) ≡ number r ∷ []) ↔ (t ≡ true)
refused-by true r v = (λ e. refl, λ e. refl)
refused-by false r v = (
  λ e. let z : ◌≡◌ {A = ℕ} 0 1 = cc in absurd (omega arith),
  λ e. absurd ((fails false (λ (z : ⊥). z)).0 e),
)

-- "Turned away: number 13", exactly then
pub number-13 : (table : List ℕ) (a b : ℕ) → (number_told (degrees_over table a b) ≡ 13 ∷ []) ↔ OffTable table a b
unfolding degrees_over
number-13 table a b =
    let by = refused-by (off_table table a b) Refusal.OffTable (thousandths table (resistance a b)) in
    let off = off-means table a b in
    (λ e. off.0 (by.0 e), λ h. by.1 (off.1 h))

-- and no number, but the thousandths, otherwise
pub answer-means :
    (table : List ℕ) (a b : ℕ) →
    ¬ OffTable table a b →
    (number_told (degrees_over table a b) ≡ []) × (value_told (degrees_over table a b) ≡ thousandths table (resistance a b) ∷ [])
answer-means table a b n = let on = on-answered table a b n in (ap number_told on, ap value_told on)
