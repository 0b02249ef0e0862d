-- Sums over neighbouring places, and the most that places can weigh of which none but those after an empty one weigh more than
-- the pace p.
use Prim.Native.Nat.{ℕ, zero, suc, ◌+◌, ◌*◌, ◌≤◌, ◌<◌}
use native.Mathlib.Nat.{add-zero, mul-suc}
use native.Mathlib.Omega.{arith}
use mathlib.Core.Logic.{◌⊎◌, ⊎_elim}
use mathlib.Core.Path.{◌≡◌}
use Rattle.unit.proofs.Cases.{by_eqb}

abbrev pub sum_from : (ℕ → ℕ) → ℕ → ℕ → ℕ
sum_from g a zero = 0
sum_from g a (suc n) = sum_from g a n + g (a + n)

-- from the front
pub sum-front : (g : ℕ → ℕ) (a n : ℕ) → sum_from g a (suc n) ≡ g a + sum_from g (suc a) n
sum-front g a zero = rw (add-zero a) (omega arith)
sum-front g a (suc n) = let e : a + suc n ≡ suc a + n = omega arith in rw e (omega (arith, sum-front g a n))

module _ (p : ℕ) (g : ℕ → ℕ) (some : 1 ≤ p) (most : (a : ℕ) → g a ≤ p + 1)
    (gap : (a : ℕ) → (g a ≡ 0) ⊎ (g (suc a) ≤ p)) where
  -- n places, and one place more
  bounds : (a n : ℕ) → (sum_from g a n ≤ p * n + 1) × (sum_from g a n + g (a + n) ≤ p * n + p + 1)
  bounds a zero = omega (arith, most (a + 0))
  bounds a (suc n) =
      let (here, more) = bounds a n in
      let e : a + suc n ≡ suc (a + n) = omega arith in
      rw (mul-suc p n, e)
      (omega arith, ⊎_elim (λ z. omega (arith, most (suc (a + n)))) (λ l. omega arith) (gap (a + n)))

  pub paced : (a n : ℕ) → sum_from g a n ≤ p * n + 1
  paced a n = (bounds a n).0

-- sums compared place by place, where the place j may have c more
module _ (g h : ℕ → ℕ) where
  pub sum-most : (n : ℕ) → ((i : ℕ) → i < n → g i ≤ h i) → sum_from g 0 n ≤ sum_from h 0 n
  sum-most zero f = omega arith
  sum-most (suc n) f = omega (arith, sum-most n (λ i l. f i (omega arith)), f (0 + n) (omega arith))

  pub sum-but-one :
      (j c n : ℕ) →
      ((i : ℕ) → ¬ (i ≡ j) → g i ≤ h i) →
      g j ≤ h j + c →
      sum_from g 0 n ≤ sum_from h 0 n + c
  sum-but-one j c zero f m = omega arith
  sum-but-one j c (suc n) f m =
      by_eqb (0 + n) j
      (λ e t. rw e (omega (arith, sum-most n (λ i l. f i (λ x. omega arith)))))
      (λ e t. omega (arith, sum-but-one j c n f m, f (0 + n) e))
