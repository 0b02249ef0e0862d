-- How many bytes texts have together, and those that many answers share. Assumes nothing.
use Prim.Native.Nat.{ℕ, zero, suc, ◌+◌, ◌-◌, ◌/◌, ◌%◌, ◌≤◌, ◌<◌}
use Prim.Native.String.{String}
use mathlib.Core.Bool.{Bool, true, false, cond}
use mathlib.Core.List.{List, [], ◌∷◌, ◌++◌}
use mathlib.Core.Path.{◌≡◌, refl, ap, ◌∙◌}
use native.Mathlib.Omega.{arith}
use lib.ListN.{length, get_or, take, length-append, length-take}
use Rattle.unit.proofs.Cases.{by-ltb}
use Rattle.hit.specs.Mean.{All}
use Rattle.numeral.specs.Place.{joined}
use Rattle.numeral.specs.Print.{width_from, decimal_width, decimal, signed_decimal, thousandths}
use Rattle.numeral.proofs.DigitLaws.{length_digits}
use Rattle.numeral.proofs.PrintLaws.{width-most, length-decimal}
use Rattle.numeral.specs.Ascii.{ascii}
use Rattle.wording.specs.Wording.{Texts, counted, numbered, refusal_words, refusal_word, refusal, refused}

unfoldable pub size : Texts → ℕ
size [] = 0
size (t ∷ ts) = length t + size ts

pub size-joined : (ts : Texts) → length (joined ts) ≡ size ts
unfolding joined size
size-joined [] = refl
size-joined (t ∷ ts) = length-append t (joined ts) ∙ ap (λ (n : ℕ). length t + n) (size-joined ts)

pub size-append : (ts us : Texts) → size (ts ++ us) ≡ size ts + size us
unfolding size
size-append [] us = omega arith
size-append (t ∷ ts) us = rw (size-append ts us) (omega arith)

-- the longer of two
pub cond-size : (b : Bool) (ts us : Texts) (n : ℕ) → size ts ≤ n → size us ≤ n → size (cond b ts us) ≤ n
cond-size true ts us n h k = h
cond-size false ts us n h k = k

pub take-most : (n : ℕ) (l : List ℕ) → (length (take n l) ≤ n) × (length (take n l) ≤ length l)
take-most n l = rw (length-take n l) (omega arith, omega arith)

-- ---- numbers

width-bound : (k v : ℕ) → width_from k v ≤ suc k
unfolding width_from
width-bound zero v = omega arith
width-bound (suc k) v = by-ltb v 10 (λ h e. rw e (omega arith)) (λ h e. rw e (omega (arith, width-bound k (v / 10))))

-- No decimal has more than 20 digits,
pub decimal-most : (v : ℕ) → length (decimal v) ≤ 20
unfolding decimal_width
decimal-most v = rw (length-decimal v) (width-bound 19 v)

-- and none of 32 bits more than 10.
pub decimal-word : (v : ℕ) → v < 4294967296 → length (decimal v) ≤ 10
unfolding decimal_width
decimal-word v h = rw (length-decimal v) (width-most 19 9 v (omega arith))

pub signed-most : (w : ℕ) → length (signed_decimal w) ≤ 11
unfolding signed_decimal
signed-most w =
    by-ltb w 2147483648
    (λ h e. rw e (omega (arith, decimal-word w (omega arith))))
    (λ h e. rw e (omega (arith, decimal-word (4294967296 - w) (omega arith))))

pub thousandths-most : (n : ℕ) → length (thousandths n) ≤ 24
unfolding thousandths
thousandths-most n = rw length-append (omega (arith, decimal-most (n / 1000), length_digits 10 3 (n % 1000)))

pub counted-size : (n : ℕ) (what : List ℕ) → size (counted n what) ≤ 20 + length what
unfolding size counted
counted-size n what = omega (arith, decimal-most n)

pub numbered-size : (word : List ℕ) (n : ℕ) → size (numbered word n) ≤ length word + 20
unfolding size numbered
numbered-size word n = omega (arith, decimal-most n)

-- ---- refusals

word-length : (ws : List String) (n : ℕ) → All (λ (s : String). length (ascii s) ≤ 15) ws → length (ascii (get_or ws n "unknown")) ≤ 15
unfolding ascii
word-length [] n a = omega arith
word-length (s ∷ ws) zero a = a.0
word-length (s ∷ ws) (suc n) a = word-length ws n a.1

refusal-word : (n : ℕ) → length (ascii (refusal_word n)) ≤ 15
unfolding refusal_word refusal_words ascii
refusal-word n = word-length refusal_words n (omega arith, (omega arith, (omega arith, (omega arith, (omega arith, (omega arith, (omega arith, (omega arith, (omega arith, (omega arith, (omega arith, (omega arith, (omega arith, (omega arith, (omega arith, (omega arith, (omega arith, (omega arith, (omega arith, (omega arith, (omega arith, (omega arith, tt))))))))))))))))))))))

pub refusal-size : (n : ℕ) → size (refusal n) ≤ 40
unfolding size refusal ascii
refusal-size n = omega (arith, decimal-most n, refusal-word n)

pub refused-size : (word : List ℕ) (n : ℕ) → size (refused word n) ≤ length word + 41
unfolding size refused
refused-size word n = rw size-append (omega (arith, refusal-size n))
