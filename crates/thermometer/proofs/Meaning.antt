-- What the definitions mean: the resistance, the degrees over a rising table, and number 13.
use Prim.Native.Nat.{ℕ, zero, suc, ◌+◌, ◌-◌, ◌*◌, ◌/◌, ◌≤◌, ◌<◌}
use native.Mathlib.Nat.{div-mul-le_self, lt-div-mul-add, div-lt_iff_lt-mul, le_refl, le_trans, sub_self, zero-div, add-sub_cancel_left}
use native.Mathlib.Omega.{arith}
use native.Mathlib.Numerals.{add-one}
use mathlib.Core.Path.{◌≡◌, ap, ◌∙◌}
use mathlib.Core.Bool.{true}
use mathlib.Core.List.{List, [], ◌∷◌}
use lib.ListN.{length, get_or}
use borrow.Author.Tests.{lt-ltb, le-ltb}
use Rattle.unit.proofs.Cases.{by-ltb}
use Rattle.thermometer.specs.Table.{is_rising}
use Rattle.thermometer.specs.Degrees.{resistance, interpolated, Between, thousandths, thousandths_from, first, last}
use Rattle.thermometer.proofs.Rise.{rising-cons, first-least, rises}

-- "rounded down"
pub floor : (s n : ℕ) → 0 < n → (s / n * n ≤ s) × (s < (s / n + 1) * n)
floor s n h = omega (arith, div-mul-le_self s n, lt-div-mul-add {a = s} h)

pub quotient-below : (x n b : ℕ) → 0 < n → x < b * n → x / n < b
quotient-below x n b p h = (div-lt_iff_lt-mul {k = n} {x = x} {y = b} p).1 h

quotient-rises : (x y n : ℕ) → 0 < n → x ≤ y → x / n ≤ y / n
quotient-rises x y n p h =
    let low : x / n < y / n + 1 = quotient-below x n (y / n + 1) p (omega (arith, floor y n p)) in omega arith

-- "resistance is a × 1,000,000 ÷ b milliohms, rounded down"
pub resistance-floor : (a b : ℕ) → 0 < b → (resistance a b * b ≤ a * 1000000) × (a * 1000000 < (resistance a b + 1) * b)
unfolding resistance
resistance-floor a b h = floor (a * 1000000) b h

-- a part of a degree is below one degree
pub part-below : (e f r : ℕ) → e ≤ r → r < f → 1000 * (r - e) / (f - e) < 1000
part-below e f r l h = quotient-below (1000 * (r - e)) (f - e) 1000 (omega arith) (omega arith)

-- the answer over the entries from degree k on
between-from :
    (k : ℕ) (table : List ℕ) (i r : ℕ) →
    is_rising table ≡ true →
    suc i < length table →
    get_or table i 0 ≤ r →
    r < get_or table (suc i) 0 →
    thousandths_from k table r ≡ interpolated (k + i) (get_or table i 0) (get_or table (suc i) 0) r
unfolding thousandths_from
between-from k [] i r up n l h = absurd (omega arith)
between-from k (e ∷ []) i r up n l h = absurd (omega arith)
between-from k (e ∷ f ∷ rest) zero r up n l h = rw (lt-ltb r f h) (ap (λ (m : ℕ). interpolated m e f r) (omega arith))
between-from k (e ∷ f ∷ rest) (suc i) r up n l h =
    let more = (rising-cons e f rest up).1 in
    rw (le-ltb r f (le_trans (first-least f rest more i (omega arith)) l))
    (between-from (k + 1) (f ∷ rest) i r more (omega arith) l h ∙
    ap (λ (m : ℕ). interpolated m (get_or (f ∷ rest) i 0) (get_or (f ∷ rest) (suc i) 0) r) (omega arith))

last-from :
    (k : ℕ) (e : ℕ) (rest : List ℕ) (r : ℕ) →
    is_rising (e ∷ rest) ≡ true →
    get_or (e ∷ rest) (length rest) 0 ≤ r →
    thousandths_from k (e ∷ rest) r ≡ 1000 * (k + length rest)
unfolding thousandths_from
last-from k e [] r up l = omega arith
last-from k e (f ∷ rest) r up l =
    let more = (rising-cons e f rest up).1 in
    rw (le-ltb r f (le_trans (first-least f rest more (length rest) (omega arith)) l))
    (last-from (k + 1) f rest r more l ∙ omega arith)

pub last_of :
    (table : List ℕ) (r : ℕ) →
    is_rising table ≡ true →
    0 < length table →
    last table ≤ r →
    thousandths table r ≡ 1000 * (length table - 1)
unfolding thousandths
last_of [] r up n l = absurd (omega arith)
last_of (e ∷ rest) r up n l =
    let end : suc (length rest) - 1 ≡ length rest = omega arith in
    rw end (last-from 0 e rest r up (rw end at l) ∙ omega arith)

module _ (table : List ℕ) (up : is_rising table ≡ true) where
  -- "Between entries e and f of degree i, with e ≤ R < f, the answer is 1,000 × i + 1,000 × (R − e) ÷ (f − e)
  -- thousandths of a degree, rounded down"
  pub between :
      (i r : ℕ) →
      Between table i r →
      thousandths table r ≡ 1000 * i + 1000 * (r - get_or table i 0) / (get_or table (i + 1) 0 - get_or table i 0)
  unfolding thousandths interpolated
  between i r b =
      rw (add-one i)
      (between-from 0 table i r up (omega arith) b.1 (rw (add-one i) at b.2) ∙
      ap (λ (m : ℕ). interpolated m (get_or table i 0) (get_or table (suc i) 0) r) (omega arith))

  -- the division of it, "rounded down": what is past the whole degree, in thousandths
  pub between-floor :
      (i r : ℕ) →
      Between table i r →
      ((thousandths table r - 1000 * i) * (get_or table (i + 1) 0 - get_or table i 0) ≤ 1000 * (r - get_or table i 0)) ×
      (1000 * (r - get_or table i 0) < (thousandths table r - 1000 * i + 1) * (get_or table (i + 1) 0 - get_or table i 0))
  between-floor i r b =
      rw (between i r b, add-sub_cancel_left (1000 * i) (1000 * (r - get_or table i 0) / (get_or table (i + 1) 0 - get_or table i 0)))
      (floor (1000 * (r - get_or table i 0)) (get_or table (i + 1) 0 - get_or table i 0) (omega arith))

  -- within the degree: from its whole to below the next
  pub within : (i r : ℕ) → Between table i r → (1000 * i ≤ thousandths table r) × (thousandths table r < 1000 * (i + 1))
  within i r b =
      rw (between i r b) (omega (arith, part-below (get_or table i 0) (get_or table (i + 1) 0) r b.1 b.2))

  -- "the last entry itself answers 180,000", of 181
  pub at_last : 0 < length table → thousandths table (last table) ≡ 1000 * (length table - 1)
  at_last n = last_of table (last table) up n (le_refl (last table))

  -- at the resistance of a whole degree the answer is that degree
  pub at_entry : (i : ℕ) → i < length table → thousandths table (get_or table i 0) ≡ 1000 * i
  at_entry i n =
      by-ltb (i + 1) (length table)
      (λ h t. between i (get_or table i 0) (h, le_refl _, rises table up i (i + 1) (omega arith) h) ∙
      rw (sub_self (get_or table i 0), zero-div (get_or table (i + 1) 0 - get_or table i 0)) (omega arith))
      (λ h t. let end : i ≡ length table - 1 = omega arith in rw end (at_last (omega arith)))

low-from : (k : ℕ) (table : List ℕ) (r : ℕ) → 1000 * k ≤ thousandths_from k table r
unfolding thousandths_from interpolated
low-from k [] r = omega arith
low-from k (e ∷ []) r = omega arith
low-from k (e ∷ f ∷ rest) r =
    by-ltb r f (λ h t. rw t (omega arith)) (λ h t. rw t (omega (arith, low-from (k + 1) (f ∷ rest) r)))

rise-from :
    (k e : ℕ) (rest : List ℕ) (r s : ℕ) →
    is_rising (e ∷ rest) ≡ true →
    e ≤ r →
    r ≤ s →
    thousandths_from k (e ∷ rest) r ≤ thousandths_from k (e ∷ rest) s
unfolding thousandths_from interpolated
rise-from k e [] r s up l h = omega arith
rise-from k e (f ∷ rest) r s up l h =
    by-ltb s f
    (λ a t. rw (t, lt-ltb r f (omega arith))
    (omega (arith, quotient-rises (1000 * (r - e)) (1000 * (s - e)) (f - e) (omega arith) (omega arith))))
    (λ a t. by-ltb r f
    (λ b u. rw (t, u) (omega (arith, part-below e f r l b, low-from (k + 1) (f ∷ rest) s)))
    (λ b u. rw (t, u) (rise-from (k + 1) f rest r s (rising-cons e f rest up).1 b h)))

-- a larger resistance is no lower temperature
pub rises-with :
    (table : List ℕ) (r s : ℕ) →
    is_rising table ≡ true →
    first table ≤ r →
    r ≤ s →
    thousandths table r ≤ thousandths table s
unfolding thousandths thousandths_from
rises-with [] r s up l h = omega arith
rises-with (e ∷ rest) r s up l h = rise-from 0 e rest r s up l h
