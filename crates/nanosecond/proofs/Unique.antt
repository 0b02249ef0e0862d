-- One float alone meets the contract: a number that a format holds is written in one way. Assumes nothing.
use Prim.Native.Nat.{ℕ, zero, suc, ◌*◌, ◌%◌, ◌^◌, ◌<◌}
use native.Mathlib.Nat.{mul-one, zero-mul, mul-pos, mul_right_comm, mul_left_comm, pow-succ', zero-lt-suc, eq_of_mul-eq-mul_right}
use native.Mathlib.Omega.{arith}
use mathlib.Core.Path.{◌≡◌, refl, sym, ap, ◌∙◌}
use mathlib.Core.Bool.{Bool, true, false, ◌&&◌}
use lib.Dec.{T, eqb, ltb, leb, eqb→eq, lit<}
use lib.IntN.{ℤ, pos, negsuc, neg_ℤ, ◌*ℤ◌}
use lib.Ieee.{Float, nan, inf, fin, Format, binary64, prec, emax, low, up, down, fits}
use lib.Ieee.Fits.{down_pos, and_l}
use lib.Ieee.Exact.{HasValue}
use Rattle.nanosecond.specs.Nanosecond.{signed, TimesIs, Nanoseconds}
use Rattle.nanosecond.proofs.Exact.{carried, product-signed}

-- ---- an odd number times a power of two

even_odd : (m t : ℕ) → m % 2 ≡ 1 → m ≡ 2 * t → ⊥
even_odd m t o h = omega arith

doubled : (n b : ℕ) → n * 2 ^ suc b ≡ 2 * (n * 2 ^ b)
doubled n b = ap (λ (x : ℕ). n * x) (pow-succ' 2 b) ∙ mul_left_comm n 2 (2 ^ b)

odd_power : (m n a b : ℕ) → m % 2 ≡ 1 → n % 2 ≡ 1 → m * 2 ^ a ≡ n * 2 ^ b → (m ≡ n) × (a ≡ b)
odd_power m n zero zero o p h = (sym (mul-one m) ∙ h ∙ mul-one n, refl)
odd_power m n zero (suc b) o p h = absurd (even_odd m (n * 2 ^ b) o (sym (mul-one m) ∙ h ∙ doubled n b))
odd_power m n (suc a) zero o p h = absurd (even_odd n (m * 2 ^ a) p (sym (mul-one n) ∙ sym h ∙ doubled m a))
odd_power m n (suc a) (suc b) o p h =
    let d = doubled m a in
    let e = doubled n b in
    let r = odd_power m n a b o p (omega arith) in (r.0, ap suc r.1)

-- two floats of odd digits that mean the same number have equal digits and exponents
odd-scaled :
    (m n : ℕ) (e d : ℤ) → m % 2 ≡ 1 → n % 2 ≡ 1 → m * up e * down d ≡ n * up d * down e → (m ≡ n) × (e ≡ d)
odd-scaled m n (pos a) (pos b) o p h =
    let r = odd_power m n a b o p (sym (mul-one (m * 2 ^ a)) ∙ h ∙ mul-one (n * 2 ^ b)) in (r.0, ap pos r.1)
odd-scaled m n (pos a) (negsuc b) o p h =
    absurd (even_odd n (m * 2 ^ a * 2 ^ b) p (sym (mul-one n) ∙ sym (mul-one (n * 1)) ∙ sym h ∙ doubled (m * 2 ^ a) b))
odd-scaled m n (negsuc a) (pos b) o p h =
    absurd (even_odd m (n * 2 ^ b * 2 ^ a) o (sym (mul-one m) ∙ sym (mul-one (m * 1)) ∙ h ∙ doubled (n * 2 ^ b) a))
odd-scaled m n (negsuc a) (negsuc b) o p h =
    let r = odd_power m n (suc b) (suc a) o p
    (ap (λ (x : ℕ). x * 2 ^ suc b) (sym (mul-one m)) ∙ h ∙ ap (λ (x : ℕ). x * 2 ^ suc a) (mul-one n)) in
    (r.0, (λ i. lower (sym r.1 i)))
  where
    lower : ℕ → ℤ
    lower zero = pos 0
    lower (suc k) = negsuc k

-- ---- two floats of one sign and one size above 0

is_odd : (f : Format) (s : Bool) (m : ℕ) (e : ℤ) → T (fits f (fin s (suc m) e)) → suc m % 2 ≡ 1
unfolding fits
is_odd f s m e t =
    let low_end = eqb (suc m % 2) 1 && ltb (suc m) (2 ^ prec f) in
    eqb→eq (suc m % 2) 1
    (and_l (eqb (suc m % 2) 1) (ltb (suc m) (2 ^ prec f))
    (and_l low_end (leb (down e) (2 ^ low f))
    (and_l (low_end && leb (down e) (2 ^ low f)) (ltb (suc m * up e) (2 ^ suc (emax f) * down e)) t)))

nothing : {A : Type 0} (e : ℤ) (n k : ℕ) → 0 * up e * k ≡ suc n * down e → A
nothing e n k h =
    let z : 0 * up e * k ≡ 0 = ap (λ (x : ℕ). x * k) (zero-mul (up e)) ∙ zero-mul k in
    let p : 0 < suc n * down e = mul-pos (zero-lt-suc n) (down_pos e) in absurd (omega arith)

crossed :
    (x y ex ey a k : ℕ) → 0 < k → x * k ≡ a * ex → y * k ≡ a * ey → x * ey ≡ y * ex
crossed x y ex ey a k p h g =
    eq_of_mul-eq-mul_right k p (x * ey) (y * ex)
    (mul_right_comm x ey k ∙ ap (λ (z : ℕ). z * ey) h ∙ mul_right_comm a ex ey ∙ ap (λ (z : ℕ). z * ex) (sym g) ∙ mul_right_comm y k ex)

same-value :
    (f : Format) (x y : Float) (s : Bool) (n k : ℕ) → 0 < k → T (fits f x) → T (fits f y)
    → HasValue x s (suc n) k → HasValue y s (suc n) k → x ≡ y
same-value f nan y s n k p a b v w = absurd v
same-value f (inf t) y s n k p a b v w = absurd v
same-value f (fin t m e) nan s n k p a b v w = absurd w
same-value f (fin t m e) (inf u) s n k p a b v w = absurd w
same-value f (fin t zero e) (fin u l d) s n k p a b v w = nothing e n k v.1
same-value f (fin t (suc m) e) (fin u zero d) s n k p a b v w = nothing d n k w.1
same-value f (fin t (suc m) e) (fin u (suc l) d) s n k p a b v w =
    let r = odd-scaled (suc m) (suc l) e d (is_odd f t m e a) (is_odd f u l d b)
    (crossed (suc m * up e) (suc l * up d) (down e) (down d) (suc n) k p v.1 w.1) in
    λ i. fin ((v.0 ∙ sym w.0) i) (r.0 i) (r.1 i)

-- ---- from the equation over whole numbers to the sign and the size

same-signed : (t s : Bool) (a b : ℕ) → signed t a ≡ signed s (suc b) → (t ≡ s) × (a ≡ suc b)
same-signed false false a b h = (refl, cc)
same-signed false true a b h = let z : ◌≡◌ {A = ℕ} 0 1 = cc in absurd (omega arith)
same-signed true false zero b h = let z : 0 ≡ suc b = cc in absurd (omega arith)
same-signed true false (suc a) b h = let z : ◌≡◌ {A = ℕ} 0 1 = cc in absurd (omega arith)
same-signed true true zero b h = let z : ◌≡◌ {A = ℕ} 0 1 = cc in absurd (omega arith)
same-signed true true (suc a) b h = let z : a ≡ b = cc in (refl, ap suc z)

positive-is : (b : ℕ) → 0 < b → (c : ℕ) × (b ≡ suc c)
positive-is zero h = absurd (omega arith)
positive-is (suc c) h = (c, refl)

value_of : (x : Float) (s : Bool) (n k : ℕ) → TimesIs x k (signed s (suc n)) → HasValue x s (suc n) k
value_of nan s n k h = h
value_of (inf t) s n k h = h
value_of (fin t m e) s n k h =
    let b = positive-is (suc n * down e) (mul-pos (zero-lt-suc n) (down_pos e)) in
    let r = same-signed t s (m * up e * k) b.0 (h ∙ sym (carried s (suc n) (down e)) ∙ ap (signed s) b.1) in
    (r.0, r.1 ∙ sym b.1)

one_value :
    (s : Bool) (n : ℕ) (q : ℤ) (x y : Float) → signed s (suc n) ≡ pos 250 *ℤ q → T (fits binary64 x) → T (fits binary64 y)
    → Nanoseconds q x → Nanoseconds q y → x ≡ y
one_value s n q x y e a b p r =
    same-value binary64 x y s n 65536 (lit< tt) a b
    (value_of x s n 65536 (rw e p.exact)) (value_of y s n 65536 (rw e r.exact))

-- of all values of an f64 one alone meets the contract
pub only-float : (q : ℤ) (x y : Float) → T (fits binary64 x) → T (fits binary64 y) → Nanoseconds q x → Nanoseconds q y → x ≡ y
only-float (pos zero) x y a b p r = p.plus_zero refl ∙ sym (r.plus_zero refl)
only-float (pos (suc n)) x y a b p r =
    let c = positive-is (suc n * 250) (mul-pos (zero-lt-suc n) (lit< tt)) in
    one_value false c.0 (pos (suc n)) x y (ap pos (sym c.1) ∙ product-signed (pos (suc n))) a b p r
only-float (negsuc n) x y a b p r =
    let c = positive-is (suc n * 250) (mul-pos (zero-lt-suc n) (lit< tt)) in
    one_value true c.0 (negsuc n) x y (ap (λ (z : ℕ). neg_ℤ (pos z)) (sym c.1) ∙ product-signed (negsuc n)) a b p r
