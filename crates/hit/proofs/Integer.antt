-- Laws of differences of natural numbers as integers, and of their quotient rounded down.
use Prim.Native.Nat.{ℕ, suc, ◌+◌, ◌-◌, ◌*◌, ◌/◌, ◌≤◌, ◌<◌}
use native.Mathlib.Nat.{le-div_iff_mul-le, div-eq_of_lt-le, div-mul-le_self, lt-div-mul-add}
use native.Mathlib.Omega.{arith}
use mathlib.Core.Path.{◌≡◌, ap}
use lib.IntN.{pos, negsuc, sub_ℕ, ◌+ℤ◌}
use lib.Signed.{shr_z}
use borrow.Author.Tests.{lt-ltb, le-ltb}
use Rattle.unit.proofs.Cases.{by-ltb}
use Rattle.hit.proofs.Limits.{quotient-below}

pub sub-pos : (a b c : ℕ) → a ≡ c + b → sub_ℕ a b ≡ pos c
sub-pos a b c e = rw (le-ltb a b (omega arith)) (ap pos (omega arith))

pub sub-neg : (a b c : ℕ) → b ≡ a + suc c → sub_ℕ a b ≡ negsuc c
sub-neg a b c e = rw (lt-ltb a b (omega arith)) (ap negsuc (omega arith))

pub sub_same : (a b c d : ℕ) → a + d ≡ c + b → sub_ℕ a b ≡ sub_ℕ c d
sub_same a b c d e =
    by-ltb a b (λ h t. rw (t, sub-neg c d (b - suc a) (omega arith))) (λ h t. rw (t, sub-pos c d (a - b) (omega arith)))

pub sub-sum : (a b c d : ℕ) → sub_ℕ a b +ℤ sub_ℕ c d ≡ sub_ℕ (a + c) (b + d)
sub-sum a b c d =
    by-ltb a b
    (λ h t. by-ltb c d
    (λ k u. rw (t, u, sub-neg (a + c) (b + d) (suc (b - suc a + (d - suc c))) (omega arith)))
    (λ k u. rw (t, u) (sub_same (c - d) (suc (b - suc a)) (a + c) (b + d) (omega arith))))
    (λ h t. by-ltb c d
    (λ k u. rw (t, u) (sub_same (a - b) (suc (d - suc c)) (a + c) (b + d) (omega arith)))
    (λ k u. rw (t, u, sub-pos (a + c) (b + d) (a - b + (c - d)) (omega arith))))

-- a quotient is rounded down also below zero
module _ (s n b : ℕ) (some : 0 < n) where
  below : (k : ℕ) → b ≡ s / n + suc k → (n * b - suc s) / n ≡ k
  below k e =
      div-eq_of_lt-le n (rw e (omega (arith, lt-div-mul-add {a = s} some))) (rw e (omega (arith, div-mul-le_self s n)))

  above : (k : ℕ) → s / n ≡ k + b → (s - n * b) / n ≡ k
  above k e =
      div-eq_of_lt-le n
      (omega (arith, rw e at (div-mul-le_self s n)))
      (omega (arith, rw e at (lt-div-mul-add {a = s} some)))

  pub shr-sub : shr_z (sub_ℕ s (n * b)) n ≡ sub_ℕ (s / n) b
  shr-sub =
      by-ltb s (n * b)
      (λ h t.
      let l : s / n < b = quotient-below s n b h in
      let k : ℕ = b - suc (s / n) in
      rw (t, below k (omega arith), sub-neg (s / n) b k (omega arith)))
      (λ h t.
      let l : b ≤ s / n = (le-div_iff_mul-le {x = b} {y = s} some).1 (omega arith) in
      let k : ℕ = s / n - b in
      rw (t, above k (omega arith), sub-pos (s / n) b k (omega arith)))
