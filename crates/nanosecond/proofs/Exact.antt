-- Each step of the conversion is exact: the cast, the product by 250 and the quotient by 65,536. Assumes nothing.
use Prim.Native.Nat.{ℕ, zero, suc, ◌+◌, ◌*◌, ◌^◌, ◌≤◌, ◌<◌}
use native.Mathlib.Nat.{mul-one, mul_comm, mul_assoc, mul_right_comm, mul-pos, zero-mul, lt_of_lt_of_le, mul-lt-mul_of_pos_right}
use native.Mathlib.Omega.{arith}
use mathlib.Core.Path.{◌≡◌, refl, sym, ap, ◌∙◌, subst}
use mathlib.Core.Bool.{Bool, true, false}
use lib.Dec.{lit<, lit≤}
use lib.Pow.{pow_pos}
use lib.Count.{count_trailing_zeros}
use lib.IntN.{ℤ, pos, negsuc, neg_ℤ, nat_abs, ◌*ℤ◌}
use lib.Signed.{mag, nat_abs-le}
use mir.Syntax.{w32}
use mir.Val.{SFits, of_z, to_z}
use mir.ValLaws.{to_z-of_z}
use lib.Ieee.{Float, nan, inf, fin, binary64, up, down, unlike, mul, div, of_int, odd, round, units, size, span, climb}
use lib.Ieee.Fits.{down_pos}
use lib.Ieee.Exact.{HasValue, round_exact}
use lib.Ieee.Back.{round_whole}
use lib.Ieee.Scale.{round_same}
use Rattle.nanosecond.specs.Nanosecond.{signed, TimesIs, Nanoseconds}

-- ---- the three steps

like-plus : (s : Bool) → unlike s false ≡ s
like-plus true = refl
like-plus false = refl

abbrev pub minus : ℤ → Bool
minus (pos n) = false
minus (negsuc n) = true

cast-value : (q : ℤ) → mag q < 2147483648 → HasValue (of_int binary64 q) (minus q) (nat_abs q) 1
unfolding of_int
cast-value (pos n) h = round_whole binary64 false n (omega arith)
cast-value (negsuc n) h = round_whole binary64 true (suc n) (omega arith)

product_value :
    (x : Float) (s : Bool) (n : ℕ) → n * 250 ≤ 2 ^ 53 → HasValue x s n 1
    → HasValue (mul binary64 x (fin false 125 (pos 1))) s (n * 250) 1
unfolding mul
product_value nan s n h v = absurd v
product_value (inf t) s n h v = absurd v
product_value (fin t m e) s n h v =
    let cross : m * up e * 250 * 1 ≡ n * 250 * (down e * 1)
    = mul-one (m * up e * 250) ∙ ap (λ (x : ℕ). x * 250) (sym (mul-one (m * up e)) ∙ v.1)
    ∙ mul_right_comm n (down e) 250 ∙ ap (λ (x : ℕ). n * 250 * x) (sym (mul-one (down e))) in
    subst (λ (x : Float). HasValue x s (n * 250) 1)
    (sym (ap (λ (z : Bool). round binary64 z (m * up e * 250) (down e * 1)) (like-plus t ∙ v.0)
    ∙ round_same binary64 s (m * up e * 250) (down e * 1) (n * 250) 1 (mul-pos (down_pos e) (lit< tt)) (lit< tt) cross))
    (round_whole binary64 s (n * 250) h)

quotient-value :
    (x : Float) (s : Bool) (n : ℕ) → n < 2 ^ 53 → HasValue x s n 1
    → HasValue (div binary64 x (fin false 1 (pos 16))) s n 65536
unfolding div
quotient-value nan s n h v = absurd v
quotient-value (inf t) s n h v = absurd v
quotient-value (fin t m e) s n h v =
    let cross : m * up e * 1 * 65536 ≡ n * (65536 * down e)
    = ap (λ (x : ℕ). x * 65536) v.1 ∙ mul_assoc n (down e) 65536 ∙ ap (λ (x : ℕ). n * x) (mul_comm (down e) 65536) in
    let scaled : n * 2 ^ 1074 ≡ n * 2 ^ 1058 * 65536 = sym (mul_assoc n (2 ^ 1058) 65536) in
    let small : n * 2 ^ 1058 < 2 ^ (1074 + 1024) = lt_of_lt_of_le (mul-lt-mul_of_pos_right h (pow_pos 1058)) (lit≤ tt) in
    subst (λ (x : Float). HasValue x s n 65536)
    (sym (ap (λ (z : Bool). round binary64 z (m * up e * 1) (65536 * down e)) (like-plus t ∙ v.0)
    ∙ round_same binary64 s (m * up e * 1) (65536 * down e) n 65536 (mul-pos (lit< tt) (down_pos e)) (lit< tt) cross))
    (round_exact binary64 s n 65536 n 1058 (lit< tt) h small scaled)

-- ---- a float of a sign and a size, times a number

pub carried : (s : Bool) (a d : ℕ) → signed s (a * d) ≡ signed s a *ℤ pos d
carried false a d = refl
carried true zero d = rw (zero-mul d)
carried true (suc a) d = refl

times-is : (x : Float) (s : Bool) (a k : ℕ) → HasValue x s a k → TimesIs x k (signed s a)
times-is nan s a k v = v
times-is (inf t) s a k v = v
times-is (fin t m e) s a k v = ap (λ (z : Bool). signed z (m * up e * k)) v.0 ∙ ap (signed s) v.1 ∙ carried s a (down e)

whole-signed : (q : ℤ) → signed (minus q) (nat_abs q) ≡ q
whole-signed (pos n) = refl
whole-signed (negsuc n) = refl

pub product-signed : (q : ℤ) → signed (minus q) (nat_abs q * 250) ≡ pos 250 *ℤ q
product-signed (pos n) = ap pos (mul_comm n 250)
product-signed (negsuc n) = ap (λ (x : ℕ). neg_ℤ (pos x)) (mul_comm (suc n) 250)

-- ---- the whole conversion, step by step: 250.0 is 125 × 2^1, and 65536.0 is 1 × 2^16

abbrev pub as_float : ℤ → Float
as_float q = of_int binary64 q

abbrev pub times_factor : ℤ → Float
times_factor q = mul binary64 (as_float q) (fin false 125 (pos 1))

abbrev pub converted : ℤ → Float
converted q = div binary64 (times_factor q) (fin false 1 (pos 16))

-- "i32 to f64" means the quanta
pub cast-exact : (q : ℤ) → SFits w32 q → TimesIs (as_float q) 1 q
cast-exact q h =
    subst (TimesIs (as_float q) 1) (whole-signed q) (times-is (as_float q) (minus q) (nat_abs q) 1 (cast-value q h.sfits))

-- "times 250.0" means 250 × the quanta
pub product-exact : (q : ℤ) → SFits w32 q → TimesIs (times_factor q) 1 (pos 250 *ℤ q)
product-exact q h =
    let b : nat_abs q ≤ 2147483648 = nat_abs-le q h.sfits in
    subst (TimesIs (times_factor q) 1) (product-signed q)
    (times-is (times_factor q) (minus q) (nat_abs q * 250) 1
    (product_value (as_float q) (minus q) (nat_abs q) (omega arith) (cast-value q h.sfits)))

-- "divided by 65536.0": times 65,536 it means 250 × the quanta
pub quotient-exact : (q : ℤ) → SFits w32 q → TimesIs (converted q) 65536 (pos 250 *ℤ q)
quotient-exact q h =
    let b : nat_abs q ≤ 2147483648 = nat_abs-le q h.sfits in
    subst (TimesIs (converted q) 65536) (product-signed q)
    (times-is (converted q) (minus q) (nat_abs q * 250) 65536
    (quotient-value _ (minus q) (nat_abs q * 250) (omega arith)
    (product_value (as_float q) (minus q) (nat_abs q) (omega arith) (cast-value q h.sfits))))

plus-zero : converted (pos 0) ≡ fin false 0 (pos 0)
unfolding div mul of_int round units odd size span climb count_trailing_zeros
plus-zero = refl

-- as the code has it: the number is read back from its bits, and the constants are 250 and 65,536
pub conversion :
    (q : ℤ) {factor divisor : Float} → SFits w32 q → factor ≡ fin false 125 (pos 1) → divisor ≡ fin false 1 (pos 16)
    → Nanoseconds q (div binary64 (mul binary64 (of_int binary64 (to_z w32 (of_z w32 q))) factor) divisor)
conversion q h is-factor is_divisor =
    rw (to_z-of_z w32 q h, is-factor, is_divisor)
    (record { exact = quotient-exact q h; plus_zero = λ e. ap converted e ∙ plus-zero })
