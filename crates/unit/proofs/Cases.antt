-- Proofs by whether a test holds.
use Prim.Native.Nat.{ℕ, ◌≤◌, ◌<◌}
use mathlib.Core.Path.{◌≡◌, refl}
use native.Mathlib.Omega.{arith}
use mathlib.Core.Logic.{◌↔◌}
use mathlib.Core.Bool.{Bool, true, false}
use lib.Dec.{ltb, leb, eqb}
use borrow.Author.Tests.{ltb-true, ltb-false, leb-true, leb-false, eqb-true, eqb-false}
use Rattle.unit.specs.Choice.{negate}

pub by-test : {G : Type 0} (t : Bool) → (t ≡ true → G) → (t ≡ false → G) → G
by-test true f g = f refl
by-test false f g = g refl

pub by-ltb : {G : Type 0} (a b : ℕ) → (a < b → ltb a b ≡ true → G) → (b ≤ a → ltb a b ≡ false → G) → G
by-ltb a b f g = by-test (ltb a b) (λ e. f (ltb-true a b e) e) (λ e. g (ltb-false a b e) e)

pub by-leb : {G : Type 0} (a b : ℕ) → (a ≤ b → leb a b ≡ true → G) → (b < a → leb a b ≡ false → G) → G
by-leb a b f g = by-test (leb a b) (λ e. f (leb-true a b e) e) (λ e. g (leb-false a b e) e)

pub by_eqb : {G : Type 0} (a b : ℕ) → (a ≡ b → eqb a b ≡ true → G) → (¬ (a ≡ b) → eqb a b ≡ false → G) → G
by_eqb a b f g = by-test (eqb a b) (λ e. f (eqb-true a b e) e) (λ e. g (eqb-false a b e) e)

-- a test's outcome as a statement: what the test holds by, and what it cannot hold by
pub holds : {A : Type 0} {t : Bool} → A → (t ≡ t) ↔ A
holds a = (λ e. a, λ b. refl)

apart : (t : Bool) → ¬ (t ≡ negate t)
apart true e = let z : ◌≡◌ {A = ℕ} 0 1 = cc in omega arith
apart false e = let z : ◌≡◌ {A = ℕ} 0 1 = cc in omega arith

pub fails : {A : Type 0} (t : Bool) → ¬ A → (t ≡ negate t) ↔ A
fails t n = (λ e. absurd (apart t e), λ a. absurd (n a))

pub refuted : (t : Bool) → ¬ (t ≡ true) → t ≡ false
refuted true n = absurd (n refl)
refuted false n = refl
