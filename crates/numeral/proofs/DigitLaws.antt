-- What the definitions of `Digit` come to: digits that are printed read back as their value. Assumes nothing.
use Prim.Native.Nat.{ℕ, zero, suc, ◌+◌, ◌*◌, ◌/◌, ◌%◌, ◌^◌, ◌≤◌, ◌<◌}
use mathlib.Core.Path.{◌≡◌, refl, ◌∙◌}
use mathlib.Core.Bool.{Bool, true, false, cond, ◌&&◌}
use mathlib.Core.List.{List, [], ◌∷◌, ◌++◌}
use native.Mathlib.Nat.{pow-suc, pow-zero, mod-lt, div-add-mod', div-lt_iff_lt-mul, pow-le-pow_right, add-mul, mul_assoc, add_assoc, zero-mul, zero-add}
use native.Mathlib.Decide.{dec_lt}
use native.Mathlib.Numerals.{add-one}
use native.Mathlib.Omega.{arith}
use lib.Dec.{ltb, leb}
use lib.ListN.{length, length-append}
use borrow.Author.Tests.{lt-ltb, le-ltb, le-leb, leb-true}
use Rattle.numeral.specs.Digit.{digit_of, glyph, are_digits, value_of, digits}
use Rattle.numeral.specs.Read.{value_in, read_hex, read_decimal}
use Rattle.std.specs.Prelude.{Option, Some, None}

below : (c b : ℕ) {x y : ℕ} → (c < b → x ≤ 16) → (b ≤ c → y ≤ 16) → cond (ltb c b) x y ≤ 16
below c b {x} {y} less more = go (dec_lt c b)
  where
    go : Dec (c < b) → cond (ltb c b) x y ≤ 16
    go (yes p) = rw (lt-ltb c b p) (less p)
    go (no p) = let h : b ≤ c = omega arith in rw (le-ltb c b h) (more h)

pub digit-most : (c : ℕ) → digit_of c ≤ 16
unfolding digit_of
digit-most c =
    below c 48 (λ _. omega arith)
    (λ _. below c 58 (λ h. omega arith)
    (λ _. below c 65 (λ _. omega arith)
    (λ _. below c 71 (λ h. omega arith) (λ _. below c 97 (λ _. omega arith) (λ _. below c 103 (λ h. omega arith) (λ _. omega arith))))))

pub digit_glyph : (d : ℕ) → d < 16 → digit_of (glyph d) ≡ d
unfolding digit_of glyph
digit_glyph d h = go (dec_lt d 10)
  where
    go : Dec (d < 10) → digit_of (glyph d) ≡ d
    go (yes p) = simp (lt-ltb d 10 p, le-ltb (48 + d) 48 (omega arith), lt-ltb (48 + d) 58 (omega arith)) (omega arith)
    go (no p) =
        simp (
          le-ltb d 10 (omega arith),
          le-ltb (55 + d) 48 (omega arith),
          le-ltb (55 + d) 58 (omega arith),
          le-ltb (55 + d) 65 (omega arith),
          lt-ltb (55 + d) 71 (omega arith),
        )
        (omega arith)

pub length_digits : (b k v : ℕ) → length (digits b k v) ≡ k
unfolding digits
length_digits b zero v = refl
length_digits b (suc k) v = length-append (digits b k (v / b)) (glyph (v % b) ∷ []) ∙ rw (length_digits b k (v / b)) (add-one k)

pub value-append : (b n : ℕ) (xs ys : List ℕ) → value_of b n (xs ++ ys) ≡ value_of b (value_of b n xs) ys
unfolding value_of
value-append b n [] ys = refl
value-append b n (x ∷ xs) ys = value-append b (n * b + digit_of x) xs ys

both : (s t : Bool) → (s && t) ≡ true → (s ≡ true) × (t ≡ true)
both true t e = (refl, e)
both false t e = (e, cc)

pub are-append : (b : ℕ) (xs ys : List ℕ) → are_digits b xs ≡ true → are_digits b (xs ++ ys) ≡ are_digits b ys
unfolding are_digits
are-append b [] ys e = refl
are-append b (x ∷ xs) ys e =
    let h = both (ltb (digit_of x) b) (are_digits b xs) e in
    rw (h.0, are-append b xs ys h.1)

module _ (b : ℕ) (some : 0 < b) (most : b ≤ 16) where
  last-digit : (v : ℕ) → digit_of (glyph (v % b)) ≡ v % b
  last-digit v = digit_glyph (v % b) (omega (arith, mod-lt v some))

  pub are-digits : (k v : ℕ) → are_digits b (digits b k v) ≡ true
  unfolding are_digits digits
  are-digits zero v = refl
  are-digits (suc k) v =
      are-append b (digits b k (v / b)) (glyph (v % b) ∷ []) (are-digits k (v / b))
      ∙ simp (last-digit v, lt-ltb (v % b) b (mod-lt v some))

  -- The value of k digits of v after those of n.
  pub value-digits : (k n v : ℕ) → v < b ^ k → value_of b n (digits b k v) ≡ n * b ^ k + v
  unfolding value_of digits
  value-digits zero n v h = rw pow-zero (omega (arith, rw pow-zero at h))
  value-digits (suc k) n v h =
      let less : v / b < b ^ k = (div-lt_iff_lt-mul some).1 (rw pow-suc at h) in
      value-append b n (digits b k (v / b)) (glyph (v % b) ∷ [])
      ∙ rw (value-digits k n (v / b) less, last-digit v, pow-suc, add-mul, mul_assoc, add_assoc, div-add-mod' v b)

  pub value-in-digits : (limit k v : ℕ) → v < b ^ k → v ≤ limit → value_in b limit (digits b k v) ≡ Some v
  unfolding value_in
  value-in-digits limit k v h l =
      let e : value_of b 0 (digits b k v) ≡ v = value-digits k 0 v h ∙ rw (zero-mul, zero-add) in
      rw (are-digits k v, e, le-leb v limit l)

-- Digits read as their value, which eight of them keep within 32 bits.
pub hex-reads : (least most : ℕ) (cs : List ℕ) → 0 < length cs → least ≤ length cs → length cs ≤ most → length cs ≤ 8
    → are_digits 16 cs ≡ true → value_of 16 0 cs ≤ 4294967295 → read_hex least most cs ≡ Some (value_of 16 0 cs)
unfolding read_hex value_in
hex-reads least most cs some low high eight all small =
    rw (le-ltb (length cs) 1 some, le-ltb (length cs) least low, le-ltb most (length cs) high, le-ltb 8 (length cs) eight, all, le-leb (value_of 16 0 cs) 4294967295 small)

-- A number that is printed in k hexadecimal digits reads back as itself.
pub hex-reads-back : (least most k v : ℕ) → 0 < k → least ≤ k → k ≤ most → k ≤ 8 → v < 16 ^ k → read_hex least most (digits 16 k v) ≡ Some v
unfolding read_hex
hex-reads-back least most k v some low high eight h =
    let top : 16 ^ k ≤ 16 ^ 8 = pow-le-pow_right (omega arith) eight in
    rw (length_digits 16 k v, le-ltb k 1 some, le-ltb k least low, le-ltb most k high, le-ltb 8 k eight)
    (value-in-digits 16 (omega arith) (omega arith) 4294967295 k v h (omega arith))

-- A decimal that is read is within its limit.
pub decimal-at-most : (limit : ℕ) (cs : List ℕ) (v : ℕ) → read_decimal limit cs ≡ Some v → v ≤ limit
unfolding read_decimal value_in
decimal-at-most limit cs v =
    unless (ltb (length cs) 1) (unless (ltb 10 (length cs)) (go (are_digits 10 cs) (leb (value_of 10 0 cs) limit) refl))
  where
    Within : Option ℕ → Type 0
    Within r = r ≡ Some v → v ≤ limit

    bad : Within None
    bad e = let z : ◌≡◌ {A = ℕ} 0 1 = cc in absurd (omega arith)

    unless : (t : Bool) {r : Option ℕ} → Within r → Within (cond t None r)
    unless true h = bad
    unless false h = h

    go : (s t : Bool) → leb (value_of 10 0 cs) limit ≡ t → Within (cond s (cond t (Some (value_of 10 0 cs)) None) None)
    go false t p = bad
    go true false p = bad
    go true true p = λ e. let same : value_of 10 0 cs ≡ v = cc in rw (← same) (leb-true (value_of 10 0 cs) limit p)
