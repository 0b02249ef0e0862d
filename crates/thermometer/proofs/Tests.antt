-- Tests that are joined, and a test at each entry of a list.
use Prim.Native.Nat.{ℕ, zero, suc, ◌+◌, ◌≤◌, ◌<◌}
use native.Mathlib.Omega.{arith}
use mathlib.Core.Path.{◌≡◌, refl, ap, ◌∙◌}
use mathlib.Core.Logic.{◌↔◌, ◌⊎◌, inl, inr, ⊎_elim}
use mathlib.Core.Bool.{Bool, true, false}
use mathlib.Core.List.{List, [], ◌∷◌}
use lib.ListN.{length, get_or}
use lib.Dec.{ltb, leb, eqb}
use borrow.Author.Tests.{ltb-true, leb-true, eqb-true, lt-ltb, le-leb, eq-eqb}
use Rattle.unit.specs.Choice.{either, both}
use Rattle.unit.proofs.Cases.{fails}
use Rattle.unit.proofs.Joined.{both_true}

pub eqb-means : (a b : ℕ) → (eqb a b ≡ true) ↔ (a ≡ b)
eqb-means a b = (eqb-true a b, eq-eqb a b)

pub ltb-means : (a b : ℕ) → (ltb a b ≡ true) ↔ (a < b)
ltb-means a b = (ltb-true a b, lt-ltb a b)

pub leb-means : (a b : ℕ) → (leb a b ≡ true) ↔ (a ≤ b)
leb-means a b = (leb-true a b, le-leb a b)

pub either-means : {P Q : Type 0} (s t : Bool) → ((s ≡ true) ↔ P) → ((t ≡ true) ↔ Q) → (either s t ≡ true) ↔ (P ⊎ Q)
either-means true t p q = (λ h. inl (p.0 refl), λ h. refl)
either-means false t p q = (
  λ h. inr (q.0 h),
  ⊎_elim (λ h. absurd ((fails false (λ (z : ⊥). z)).0 (p.1 h))) q.1,
)

pub both-means : {P Q : Type 0} (s t : Bool) → ((s ≡ true) ↔ P) → ((t ≡ true) ↔ Q) → (both s t ≡ true) ↔ (P × Q)
both-means true t p q = (λ h. (p.0 refl, q.0 h), λ h. q.1 h.1)
both-means false t p q = (λ h. absurd ((fails false (λ (z : ⊥). z)).0 h), λ h. p.1 h.0)

-- the test f passes at each entry of the list and its place, counted from i
abbrev pub every : (ℕ → ℕ → Bool) → ℕ → List ℕ → Bool
every f i [] = true
every f i (x ∷ xs) = both (f i x) (every f (i + 1) xs)

-- then it passes at any one
pub every-at :
    (f : ℕ → ℕ → Bool) (xs : List ℕ) (i : ℕ) →
    every f i xs ≡ true →
    (k : ℕ) →
    k < length xs →
    f (i + k) (get_or xs k 0) ≡ true
every-at f [] i t k h = absurd (omega arith)
every-at f (x ∷ xs) i t zero h =
    ap (λ (m : ℕ). f m x) (omega arith) ∙ (both_true (f i x) (every f (i + 1) xs) t).0
every-at f (x ∷ xs) i t (suc k) h =
    ap (λ (m : ℕ). f m (get_or xs k 0)) (omega arith) ∙
    every-at f xs (i + 1) (both_true (f i x) (every f (i + 1) xs) t).1 k (omega arith)
