-- Numbers of two, four and eight bytes, and what the loops over them keep.
use Prim.Native.Nat.{ℕ, zero, suc, ◌+◌, ◌-◌, ◌*◌, ◌/◌, ◌%◌, ◌≤◌, ◌<◌}
use native.Mathlib.Nat.{zero-add, add-zero, add-suc, suc-add, mul-zero, mod-lt, mod-add-div, mod-eq_of_lt}
use native.Mathlib.Numerals.{add-one}
use native.Mathlib.Omega.{arith}
use mathlib.Core.Bool.{Bool, true, false}
use mathlib.Core.List.{List, [], ◌∷◌, ◌++◌, append-nil}
use mathlib.Core.Path.{◌≡◌, refl, sym, ap, ◌∙◌}
use lib.ListN.{length, get_or, set, take, drop, length-set, length-drop, length-append, drop_of_length-le}
use lib.Seq.{sets, sets-eq, length-sets, take_at, drop-append-add, drop-cons, drop-drop, take-add, take-suc-set, take_all, length-take-le}
use borrow.Author.Tests.{lt-ltb, le-ltb}
use Rattle.unit.specs.Choice.{both}
use Rattle.layout.specs.Number.{bound, bytes_of, value, all_bytes, numbers}
use Rattle.layout.specs.Layout.{flags_fit}

-- two bytes
pub two_bytes :
    (l : List ℕ) (at : ℕ) → at + 2 ≤ length l → get_or l at 0 + 256 * get_or l (at + 1) 0 ≡ value (take 2 (drop at l))
unfolding value
two_bytes l at h =
    rw (drop-cons l at 0 (omega arith), add-one at, drop-cons l (suc at) 0 (omega arith)) (omega arith)

-- a number of j + k bytes: its first j bytes, and the k bytes after them
pub value-joined : (a b : List ℕ) → value (a ++ b) ≡ value a + bound (length a) * value b
unfolding value bound
value-joined [] b = omega arith
value-joined (x ∷ a) b =
    let e : value (a ++ b) ≡ value a + bound (length a) * value b = value-joined a b in
    omega arith

remainder : (r z : ℕ) → (r + 256 * z) % 256 ≡ r % 256
remainder r z = omega arith

quotient : (r z : ℕ) → (r + 256 * z) / 256 ≡ r / 256 + z
quotient r z = omega arith

pub bytes-joined :
    (j k r q : ℕ) → r < bound j → bytes_of j r ++ bytes_of k q ≡ bytes_of (j + k) (r + bound j * q)
unfolding bytes_of bound
bytes-joined zero k r q h = rw zero-add (ap (bytes_of k) (omega arith))
bytes-joined (suc j) k r q h =
    let z : ℕ = bound j * q in
    let e : r + 256 * bound j * q ≡ r + 256 * z = omega arith in
    rw (suc-add j k, e, remainder r z, quotient r z)
    (ap (λ (l : List ℕ). r % 256 ∷ l) (bytes-joined j k (r / 256) q (omega arith)))

-- .. a number of four bytes is two of two bytes, one of eight two of four
pub value-halves :
    (k at : ℕ) (l : List ℕ) →
    at + k ≤ length l →
    value (take k (drop at l)) + bound k * value (take k (drop (at + k) l)) ≡ value (take (k + k) (drop at l))
value-halves k at l h =
    let e : length (take k (drop at l)) ≡ k = length-take-le k (drop at l) (rw length-drop (omega arith)) in
    sym
    (ap value (take-add k k (drop at l))
    ∙ value-joined (take k (drop at l)) (take k (drop k (drop at l)))
    ∙ rw (e, drop-drop k at l))

pub bytes_halves : (k x : ℕ) → 0 < bound k → bytes_of k (x % bound k) ++ bytes_of k (x / bound k) ≡ bytes_of (k + k) x
bytes_halves k x h =
    bytes-joined k k (x % bound k) (x / bound k) (mod-lt x h)
    ∙ ap (bytes_of (k + k)) (mod-add-div x (bound k))

-- Reading numbers: n of them are read, and one more.
numbers-snoc :
    (k n : ℕ) (l : List ℕ) → numbers k (suc n) l ≡ numbers k n l ++ value (take k (drop (k * n) l)) ∷ []
unfolding numbers
numbers-snoc k zero l = rw mul-zero
numbers-snoc k (suc n) l =
    let e : k + k * n ≡ k * suc n = omega arith in
    ap (λ (r : List ℕ). value (take k l) ∷ r)
    (numbers-snoc k n (drop k l) ∙ rw (drop-drop (k * n) k l, e))

-- What a loop over them keeps, at any width: of m numbers of k bytes from a place on, n are read.
pub record Reading (k at m : ℕ) (l w : List ℕ) (n : ℕ) : Type 0 where
  pub most : n ≤ m
  pub long : length w ≡ m
  pub same : take n w ≡ numbers k n (drop at l)

module _ (k at m : ℕ) (l w : List ℕ) where
  pub reading-starts : length w ≡ m → Reading k at m l w 0
  unfolding numbers
  reading-starts e = record { most = omega arith; long = e; same = refl }

  pub reading-on :
      (n x : ℕ) →
      n < m →
      x ≡ value (take k (drop (at + k * n) l)) →
      Reading k at m l w n →
      Reading k at m l (set w n x) (n + 1)
  reading-on n x h e r =
      record {
        most = omega arith;
        long = length-set w n x ∙ r.long;
        same =
            rw (add-one n)
            (take-suc-set w n x (omega (arith, r.long))
            ∙ rw (r.same, e, ← drop-drop (k * n) at l) (sym (numbers-snoc k n (drop at l))));
      }

  pub reading-ends : (n : ℕ) → m ≤ n → Reading k at m l w n → w ≡ numbers k m (drop at l)
  reading-ends n h r =
      let f : n ≡ m = omega (arith, r.most) in
      sym (take_all n w (omega (arith, r.long))) ∙ r.same ∙ rw f

-- Writing numbers, likewise.
pub sets-joined : (a b l : List ℕ) (at : ℕ) → sets l at (a ++ b) ≡ sets (sets l at a) (at + length a) b
sets-joined [] b l at = rw add-zero
sets-joined (x ∷ a) b l at = sets-joined a b (set l at x) (suc at) ∙ rw (suc-add, add-suc)

pub length-bytes : (k x : ℕ) → length (bytes_of k x) ≡ k
unfolding bytes_of
length-bytes zero x = refl
length-bytes (suc k) x = ap suc (length-bytes k (x / 256))

pub record Writing (k at m : ℕ) (start xs l : List ℕ) (n : ℕ) : Type 0 where
  pub most : n ≤ m
  pub long : length l ≡ length start
  pub same : sets start at (all_bytes k xs) ≡ sets l (at + k * n) (all_bytes k (drop n xs))

module _ (k at m : ℕ) (start xs l : List ℕ) where
  pub writing-on :
      (l' : List ℕ) (n : ℕ) →
      length xs ≡ m →
      n < m →
      l' ≡ sets l (at + k * n) (bytes_of k (get_or xs n 0)) →
      Writing k at m start xs l n →
      Writing k at m start xs l' (n + 1)
  unfolding all_bytes
  writing-on l' n e h put w =
      let f : at + k * n + k ≡ at + k * (n + 1) = omega arith in
      record {
        most = omega arith;
        long = rw (put, length-sets) w.long;
        same =
            w.same
            ∙ ap (λ (r : List ℕ). sets l (at + k * n) (all_bytes k r)) (drop-cons xs n 0 (omega arith))
            ∙ sets-joined (bytes_of k (get_or xs n 0)) (all_bytes k (drop (suc n) xs)) l (at + k * n)
            ∙ rw (length-bytes k (get_or xs n 0), f, add-one n, put);
      }

  pub writing-ends : (n : ℕ) → length xs ≡ m → m ≤ n → Writing k at m start xs l n → l ≡ sets start at (all_bytes k xs)
  unfolding all_bytes
  writing-ends n e h w =
      let f : drop n xs ≡ [] = drop_of_length-le xs {i = n} (omega (arith, w.most)) in
      sym (w.same ∙ rw f)

pub writing-starts : (k at m : ℕ) (start xs : List ℕ) → Writing k at m start xs start 0
writing-starts k at m start xs = record { most = omega arith; long = refl; same = rw (mul-zero, add-zero) refl }

-- a number of 2k bytes by its halves
pub put-halves :
    (k : ℕ) (l : List ℕ) (at x : ℕ) →
    0 < bound k →
    x / bound k < bound k →
    sets (sets l at (bytes_of k (x % bound k))) (at + k) (bytes_of k (x / bound k % bound k)) ≡ sets l at (bytes_of (k + k) x)
put-halves k l at x p h =
    let e : length (bytes_of k (x % bound k)) ≡ k = length-bytes k (x % bound k) in
    let f : x / bound k % bound k ≡ x / bound k = mod-eq_of_lt h in
    ap (λ (n : ℕ). sets (sets l at (bytes_of k (x % bound k))) (at + k) (bytes_of k n)) f
    ∙ ap (λ (n : ℕ). sets (sets l at (bytes_of k (x % bound k))) (at + n) (bytes_of k (x / bound k))) (sym e)
    ∙ sym (sets-joined (bytes_of k (x % bound k)) (bytes_of k (x / bound k)) l at)
    ∙ ap (sets l at) (bytes_halves k x p)

-- Flags: n fit, and one more, or not.
both_false : (b : Bool) → both b false ≡ false
both_false true = refl
both_false false = refl

pub flag-fits : (l : List ℕ) (n : ℕ) → flags_fit l n ≡ true → get_or l (n + 1) 0 < 2 → flags_fit l (n + 1) ≡ true
unfolding flags_fit
flag-fits l n e h = rw (add-one n, e, lt-ltb (get_or l (suc n) 0) 2 (rw (← add-one n) h))

misfit : (l : List ℕ) (n k : ℕ) → 2 ≤ get_or l (suc n) 0 → flags_fit l (suc n + k) ≡ false
unfolding flags_fit
misfit l n zero h = rw (add-zero, le-ltb (get_or l (suc n) 0) 2 h) (both_false (flags_fit l n))
misfit l n (suc k) h = rw (add-suc (suc n) k, misfit l n k h)

pub flag-misfits : (l : List ℕ) (n m : ℕ) → n < m → 2 ≤ get_or l (n + 1) 0 → false ≡ flags_fit l m
flag-misfits l n m h i =
    let e : m ≡ suc n + (m - suc n) = omega arith in
    rw e (sym (misfit l n (m - suc n) (rw (← add-one n) i)))

-- What lies one after the other: the whole buffer.
pub length-all : (k : ℕ) (xs : List ℕ) → length (all_bytes k xs) ≡ k * length xs
unfolding all_bytes
length-all k [] = omega arith
length-all k (x ∷ xs) =
    let e : length (bytes_of k x) ≡ k = length-bytes k x in
    let f : length (all_bytes k xs) ≡ k * length xs = length-all k xs in
    length-append (bytes_of k x) (all_bytes k xs) ∙ rw (e, f) (omega arith)

next : (p b r : List ℕ) (n : ℕ) → length p ≡ n → length b ≤ length r → sets (p ++ r) n b ≡ p ++ b ++ drop (length b) r
next p b r n e h =
    sets-eq b (p ++ r) n (rw length-append (omega arith))
    ∙ rw (take_at p r n e, ← e, drop-append-add p r (length b))

pub laid :
    (o s d q e : List ℕ) →
    length o ≡ 233 →
    length s ≡ 25 →
    length d ≡ 18 →
    length q ≡ 33 →
    length e ≡ 5 →
    sets (sets (sets (s ++ drop 25 o) 25 (all_bytes 2 d)) 61 (all_bytes 4 q)) 193 (all_bytes 8 e)
    ≡ s ++ all_bytes 2 d ++ all_bytes 4 q ++ all_bytes 8 e
laid o s d q e lo ls ld lq le =
    let two : List ℕ = all_bytes 2 d in
    let four : List ℕ = all_bytes 4 q in
    let eight : List ℕ = all_bytes 8 e in
    let l2 : length two ≡ 36 = length-all 2 d ∙ omega arith in
    let l4 : length four ≡ 132 = length-all 4 q ∙ omega arith in
    let l8 : length eight ≡ 40 = length-all 8 e ∙ omega arith in
    let r : List ℕ = drop 25 o in
    let lr : length r ≡ 208 = length-drop 25 o ∙ omega arith in
    let l3 : length (drop 36 r) ≡ 172 = length-drop 36 r ∙ omega arith in
    let l5 : length (drop 132 (drop 36 r)) ≡ 40 = length-drop 132 (drop 36 r) ∙ omega arith in
    let s2 : length (s ++ two) ≡ 61 = length-append s two ∙ omega arith in
    let s4 : length (s ++ two ++ four) ≡ 193 = length-append (s ++ two) four ∙ omega arith in
    ap (λ (l : List ℕ). sets (sets l 61 four) 193 eight)
    (next s two r 25 ls (omega arith) ∙ ap (λ (n : ℕ). s ++ two ++ drop n r) l2)
    ∙ ap (λ (l : List ℕ). sets l 193 eight)
    (next (s ++ two) four (drop 36 r) 61 s2 (omega arith) ∙ ap (λ (n : ℕ). s ++ two ++ four ++ drop n (drop 36 r)) l4)
    ∙ next (s ++ two ++ four) eight (drop 132 (drop 36 r)) 193 s4 (omega arith)
    ∙ ap (λ (l : List ℕ). s ++ two ++ four ++ eight ++ l)
    (drop_of_length-le (drop 132 (drop 36 r)) {i = length eight} (omega arith))
    ∙ append-nil (s ++ two ++ four ++ eight)
