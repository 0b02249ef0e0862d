-- What the definitions of `Print` come to: a decimal reads back as its value and has no leading zero, and a time is the nearest ten-thousandth.
-- Assumes nothing.
use Prim.Native.Nat.{ℕ, zero, suc, ◌+◌, ◌-◌, ◌*◌, ◌/◌, ◌%◌, ◌^◌, ◌≤◌, ◌<◌}
use mathlib.Core.Path.{◌≡◌, refl, ap, ◌∙◌}
use mathlib.Core.List.{List, [], ◌∷◌, ◌++◌}
use native.Mathlib.Nat.{pow-suc, zero-mul, zero-add}
use native.Mathlib.Decide.{dec_lt}
use native.Mathlib.Omega.{arith}
use lib.ListN.{length, get_or}
use borrow.Author.Tests.{lt-ltb, le-ltb}
use Rattle.numeral.specs.Digit.{glyph, value_of, digits}
use Rattle.numeral.specs.Read.{read_decimal}
use Rattle.numeral.specs.Print.{low_bytes, hex_bytes, width_from, decimal_width, decimal, ten_thousandths, nanoseconds, signed_nanoseconds, Nearest}
use Rattle.numeral.proofs.DigitLaws.{length_digits, value-append, value-digits, value-in-digits}
use Rattle.std.specs.Prelude.{Some}

pub length-low-bytes : (ws : List ℕ) → length (low_bytes ws) ≡ length ws
unfolding low_bytes
length-low-bytes [] = refl
length-low-bytes (w ∷ ws) = ap suc (length-low-bytes ws)

pub low_byte : (ws : List ℕ) (i : ℕ) → get_or (low_bytes ws) i 0 ≡ get_or ws i 0 % 256
unfolding low_bytes
low_byte [] i = refl
low_byte (w ∷ ws) zero = refl
low_byte (w ∷ ws) (suc i) = low_byte ws i

two-more : (n : ℕ) → 2 * suc n ≡ suc (suc (2 * n))
two-more n = omega arith

pub length-hex-bytes : (bs : List ℕ) → length (hex_bytes bs) ≡ 2 * length bs
unfolding hex_bytes digits
length-hex-bytes [] = refl
length-hex-bytes (b ∷ bs) = rw (length-hex-bytes bs, two-more)

pub hex-high : (bs : List ℕ) (i : ℕ) → i < length bs → get_or (hex_bytes bs) (2 * i) 0 ≡ glyph (get_or bs i 0 / 16 % 16)
unfolding hex_bytes digits
hex-high [] i h = absurd (omega arith)
hex-high (b ∷ bs) zero h = refl
hex-high (b ∷ bs) (suc i) h = rw two-more (hex-high bs i (omega arith))

pub hex-low : (bs : List ℕ) (i : ℕ) → i < length bs → get_or (hex_bytes bs) (2 * i + 1) 0 ≡ glyph (get_or bs i 0 % 16)
unfolding hex_bytes digits
hex-low [] i h = absurd (omega arith)
hex-low (b ∷ bs) zero h = refl
hex-low (b ∷ bs) (suc i) h =
    let there : 2 * suc i + 1 ≡ suc (suc (2 * i + 1)) = omega arith in
    rw there (hex-low bs i (omega arith))

width-zero : (v : ℕ) → width_from zero v ≡ 1
unfolding width_from
width-zero v = refl

pub width_one : (k v : ℕ) → v < 10 → width_from k v ≡ 1
unfolding width_from
width_one zero v h = refl
width_one (suc k) v h = rw (lt-ltb v 10 h)

pub width-more : (k v : ℕ) → 10 ≤ v → width_from (suc k) v ≡ suc (width_from k (v / 10))
unfolding width_from
width-more k v h = rw (le-ltb v 10 h)

-- A rule of widths holds where it holds below ten and goes from v / 10 to v.
width-cases : {P : Type 0} (v : ℕ) → (v < 10 → P) → (10 ≤ v → P) → P
width-cases {P} v small large = go (dec_lt v 10)
  where
    go : Dec (v < 10) → P
    go (yes p) = small p
    go (no p) = large (omega arith)

pub width_some : (k v : ℕ) → 0 < width_from k v
width_some zero v = rw (width-zero v) (omega arith)
width_some (suc k) v = width-cases v (λ h. rw (width_one (suc k) v h) (omega arith)) (λ h. rw (width-more k v h) (omega arith))

pub tenth : (k v : ℕ) → v < 10 ^ suc (suc k) → v / 10 < 10 ^ suc k
tenth k v h = omega (arith, rw pow-suc at h)

-- The digits of a width suffice.
pub width-holds : (k v : ℕ) → v < 10 ^ suc k → v < 10 ^ width_from k v
width-holds zero v h = rw (width_one zero v h) h
width-holds (suc k) v h =
    width-cases v (λ p. rw (width_one (suc k) v p) p)
    (λ p. rw (width-more k v p, pow-suc) (omega (arith, width-holds k (v / 10) (tenth k v h))))

-- A width is no more than another number of digits that suffices.
pub width-most : (k j v : ℕ) → v < 10 ^ suc j → width_from k v ≤ suc j
width-most zero j v h = rw (width-zero v) (omega arith)
width-most (suc k) zero v h = rw (width_one (suc k) v h) (omega arith)
width-most (suc k) (suc j) v h =
    width-cases v (λ p. rw (width_one (suc k) v p) (omega arith))
    (λ p. rw (width-more k v p) (omega (arith, width-most k j (v / 10) (tenth j v h))))

-- The first of the digits of a width is not 0.
pub width-first : (k v : ℕ) → 0 < v → 10 ^ (width_from k v - 1) ≤ v
width-first zero v h = rw (width-zero v) h
width-first (suc k) v h =
    width-cases v (λ p. rw (width_one (suc k) v p) h)
    (λ p. let w = width_from k (v / 10) in
    let one : suc w - 1 ≡ suc (w - 1) = omega (arith, width_some k (v / 10)) in
    rw (width-more k v p, one, pow-suc) (omega (arith, width-first k (v / 10) (omega arith))))

-- A decimal of v, which has at most twenty digits.
module _ (v : ℕ) (fits : v < 2 ^ 64) where
  pub decimal-value : (n : ℕ) → value_of 10 n (decimal v) ≡ n * 10 ^ decimal_width v + v
  unfolding decimal decimal_width
  decimal-value n = value-digits 10 (omega arith) (omega arith) (width_from 19 v) n v (width-holds 19 v (omega arith))

  -- It does not start with 0, unless v is 0.
  pub decimal-first : 0 < v → 10 ^ (decimal_width v - 1) ≤ v
  unfolding decimal_width
  decimal-first h = width-first 19 v h

pub length-decimal : (v : ℕ) → length (decimal v) ≡ decimal_width v
unfolding decimal
length-decimal v = length_digits 10 (decimal_width v) v

-- A decimal that is printed reads back as itself.
pub decimal-reads-back : (limit v : ℕ) → v ≤ limit → v < 2 ^ 32 → read_decimal limit (decimal v) ≡ Some v
unfolding read_decimal decimal decimal_width
decimal-reads-back limit v low h =
    let ten : width_from 19 v ≤ 10 = width-most 19 9 v (omega arith) in
    rw (length_digits 10 (width_from 19 v) v, le-ltb (width_from 19 v) 1 (width_some 19 v), le-ltb 10 (width_from 19 v) ten)
    (value-in-digits 10 (omega arith) (omega arith) limit (width_from 19 v) v (width-holds 19 v (omega arith)) low)

pub rounded : (q : ℕ) → Nearest q (ten_thousandths q)
unfolding ten_thousandths
rounded q = record { not-above = omega arith; not-below = omega arith }

-- The digits around the point read back as the number of ten-thousandths.
pub four-decimals-value : (n : ℕ) → n < 2 ^ 64 → value_of 10 0 (decimal (n / 10000) ++ digits 10 4 (n % 10000)) ≡ n
four-decimals-value n h =
    value-append 10 0 (decimal (n / 10000)) (digits 10 4 (n % 10000))
    ∙ rw (decimal-value (n / 10000) (omega arith) 0, zero-mul, zero-add, value-digits 10 (omega arith) (omega arith) 4 (n / 10000) (n % 10000) (omega arith))
    (omega arith)

-- A word from 2^31 on stands for the negative number that is 2^32 less: a minus before its magnitude, which is never printed as 0.
pub signed-negative : (w : ℕ) → 2 ^ 31 ≤ w → w < 2 ^ 32 → (m : ℕ) × (m + w ≡ 2 ^ 32) × (signed_nanoseconds w ≡ 45 ∷ nanoseconds m) × (0 < ten_thousandths m)
unfolding signed_nanoseconds ten_thousandths
signed-negative w h l = (4294967296 - w, omega arith, rw (le-ltb w 2147483648 h), omega arith)

pub signed-positive : (w : ℕ) → w < 2 ^ 31 → signed_nanoseconds w ≡ nanoseconds w
unfolding signed_nanoseconds
signed-positive w h = rw (lt-ltb w 2147483648 h)
