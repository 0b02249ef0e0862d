-- What the definitions of `Place` come to. Assumes nothing.
use Prim.Native.Nat.{ℕ, suc, ◌+◌, ◌≤◌, ◌<◌}
use mathlib.Core.Path.{◌≡◌, refl, sym, ap, ◌∙◌}
use mathlib.Core.List.{List, [], ◌∷◌, ◌++◌, append-nil}
use native.Mathlib.Nat.{add-zero, add-suc, suc-add, add_assoc}
use native.Mathlib.Numerals.{add-one}
use native.Mathlib.Omega.{arith}
use lib.ListN.{length, take, get_or, set, length-set, length-append, take-append-drop}
use lib.Seq.{sets, sets-eq, length-sets, set_comm, length-take-le, take-suc, append_snoc}
use mathlib.Core.Bool.{true, false}
use lib.Dec.{leb}
use native.Mathlib.Decide.{dec_le}
use borrow.Author.Tests.{le-leb, lt-leb}
use Rattle.numeral.specs.Place.{overwrite, no_room, next_place, written, Put, put_each, joined}

-- To overwrite is to store one element after the other.
pub overwrite-sets : (l : List ℕ) (at : ℕ) (vs : List ℕ) → at + length vs ≤ length l → overwrite l at vs ≡ sets l at vs
unfolding overwrite
overwrite-sets l at vs h = sym (sets-eq vs l at h)

pub overwrite-nil : (l : List ℕ) (at : ℕ) → overwrite l at [] ≡ l
unfolding overwrite
overwrite-nil l at = rw (add-zero, append-nil) (take-append-drop at l)

pub length-overwrite : (l : List ℕ) (at : ℕ) (vs : List ℕ) → at + length vs ≤ length l → length (overwrite l at vs) ≡ length l
length-overwrite l at vs h = rw (overwrite-sets l at vs h) (length-sets l at vs)

sets-append : (a b l : List ℕ) (at : ℕ) → sets l at (a ++ b) ≡ sets (sets l at a) (at + length a) b
sets-append [] b l at = rw add-zero
sets-append (x ∷ a) b l at = sets-append a b (set l at x) (suc at) ∙ rw (suc-add, add-suc)

-- Two texts put one after the other are their joined text.
pub overwrite-append : (l : List ℕ) (at : ℕ) (a b : List ℕ) → at + length a + length b ≤ length l
    → overwrite (overwrite l at a) (at + length a) b ≡ overwrite l at (a ++ b)
overwrite-append l at a b h =
    let ha : at + length a ≤ length l = omega arith in
    let hb : at + length a + length b ≤ length (overwrite l at a) = rw (length-overwrite l at a ha) h in
    let hc : at + length (a ++ b) ≤ length l = rw length-append (omega arith) in
    rw (overwrite-sets (overwrite l at a) (at + length a) b hb, overwrite-sets l at a ha, overwrite-sets l at (a ++ b) hc)
    (sym (sets-append a b l at))

pub overwrite-one : (l : List ℕ) (at c : ℕ) → at < length l → overwrite l at (c ∷ []) ≡ set l at c
overwrite-one l at c h = overwrite-sets l at (c ∷ []) (omega arith)

pub overwrite-snoc : (l : List ℕ) (at : ℕ) (vs : List ℕ) (c : ℕ) → at + length vs < length l
    → set (overwrite l at vs) (at + length vs) c ≡ overwrite l at (vs ++ (c ∷ []))
overwrite-snoc l at vs c h =
    let hv : at + length vs ≤ length l = omega arith in
    let hc : at + length vs < length (overwrite l at vs) = rw (length-overwrite l at vs hv) h in
    sym (overwrite-one (overwrite l at vs) (at + length vs) c hc) ∙ overwrite-append l at vs (c ∷ []) (omega arith)

set_apart : (vs l : List ℕ) (i j c : ℕ) → ((k : ℕ) → k < length vs → i + k ≡ j → ⊥) → set (sets l i vs) j c ≡ sets (set l j c) i vs
set_apart [] l i j c a = refl
set_apart (v ∷ vs) l i j c a =
    set_apart vs (set l i v) (suc i) j c (λ k h e. a (suc k) (omega arith) (omega arith))
    ∙ ap (λ (m : List ℕ). sets m (suc i) vs) (set_comm l i j v c (λ e. a 0 (omega arith) (omega arith)))

-- A store outside of what is overwritten may come before or after.
pub overwrite-set : (l : List ℕ) (at : ℕ) (vs : List ℕ) (j c : ℕ) → at + length vs ≤ length l → ((k : ℕ) → k < length vs → at + k ≡ j → ⊥)
    → set (overwrite l at vs) j c ≡ overwrite (set l j c) at vs
overwrite-set l at vs j c h a =
    let hs : at + length vs ≤ length (set l j c) = rw length-set h in
    rw (overwrite-sets l at vs h, overwrite-sets (set l j c) at vs hs) (set_apart vs l at j c a)

-- The last of some bytes may be stored first.
pub overwrite-last : (l : List ℕ) (at : ℕ) (vs : List ℕ) (c : ℕ) → at + length vs < length l
    → overwrite (set l (at + length vs) c) at vs ≡ overwrite l at (vs ++ (c ∷ []))
overwrite-last l at vs c h =
    sym (overwrite-set l at vs (at + length vs) c (omega arith) (λ k hk e. omega arith)) ∙ overwrite-snoc l at vs c h

-- The first of some bytes may be stored last.
pub overwrite-cons : (l : List ℕ) (at : ℕ) (vs : List ℕ) (c : ℕ) → at + 1 + length vs ≤ length l
    → set (overwrite l (at + 1) vs) at c ≡ overwrite l at (c ∷ vs)
overwrite-cons l at vs c h =
    let one : at < length l = omega arith in
    overwrite-set l (at + 1) vs at c h (λ k hk e. omega arith)
    ∙ ap (λ (m : List ℕ). overwrite m (at + 1) vs) (sym (overwrite-one l at c one))
    ∙ overwrite-append l at (c ∷ []) vs h

-- A text is put byte by byte.
pub overwrite-take : (l : List ℕ) (at : ℕ) (text : List ℕ) (i : ℕ) → i < length text → at + length text ≤ length l
    → set (overwrite l at (take i text)) (at + i) (get_or text i 0) ≡ overwrite l at (take (i + 1) text)
overwrite-take l at text i h room =
    let n : length (take i text) ≡ i = length-take-le i text (omega arith) in
    rw (add-one, take-suc text i 0 h, ← overwrite-snoc l at (take i text) (get_or text i 0) (omega (arith, n)), n)

-- The two answers of a function that puts n bytes.
module _ (l : List ℕ) (at : ℕ) (vs : List ℕ) (n : ℕ) (long : length vs ≡ n) where
  pub put-done : {l' : List ℕ} → leb (at + n) (length l) ≡ true → l' ≡ overwrite l at vs → Put l at vs (at + n) l'
  unfolding next_place written
  put-done h e = record { next = rw (long, h); bytes = rw (long, h) e }

  pub put_refused : leb (at + n) (length l) ≡ false → Put l at vs no_room l
  unfolding next_place written
  put_refused h = record { next = rw (long, h); bytes = rw (long, h) }

-- Two texts around a byte.
pub overwrite-around : (l : List ℕ) (at : ℕ) (a : List ℕ) (c : ℕ) (b : List ℕ) → at + length a + 1 + length b ≤ length l
    → overwrite (set (overwrite l at a) (at + length a) c) (at + length a + 1) b ≡ overwrite l at (a ++ (c ∷ b))
overwrite-around l at a c b room =
    let long : at + length a + 1 ≡ at + length (a ++ (c ∷ [])) = rw length-append (omega arith) in
    rw (overwrite-snoc l at a c (omega arith), long, overwrite-append l at (a ++ (c ∷ [])) b (omega (arith, long)), append_snoc a c b)

-- A byte before what was put.
module _ (l : List ℕ) (at c : ℕ) (vs : List ℕ) (r : ℕ) (l' : List ℕ) (put : Put l (at + 1) vs r l') where
  cases : {P : Type 0} → (at + 1 + length vs ≤ length l → r ≡ at + 1 + length vs → l' ≡ overwrite l (at + 1) vs → P)
      → (length l < at + 1 + length vs → r ≡ no_room → l' ≡ l → P) → P
  unfolding next_place written
  cases {P} done refused = go (dec_le (at + 1 + length vs) (length l)) put.next put.bytes
    where
      go : Dec (at + 1 + length vs ≤ length l) → r ≡ next_place l (at + 1) vs → l' ≡ written l (at + 1) vs → P
      go (yes p) = rw (le-leb (at + 1 + length vs) (length l) p) (done p)
      go (no p) = let h : length l < at + 1 + length vs = omega arith in rw (lt-leb (at + 1 + length vs) (length l) h) (refused h)

  pub put-before : (r ≡ no_room → ⊥) → Put l at (c ∷ vs) r (set l' at c)
  put-before some =
      cases
      (λ h e e'. let long : at + (length vs + 1) ≡ r = omega arith in
      rw (← long) (put-done l at (c ∷ vs) (length vs + 1) (omega arith) (le-leb (at + (length vs + 1)) (length l) (omega arith)) (rw e' (overwrite-cons l at vs c h))))
      (λ h e e'. absurd (some e))

  pub put-before-refused : r ≡ no_room → length l < no_room → Put l at (c ∷ vs) r l'
  put-before-refused none small =
      cases (λ h e e'. absurd (omega arith))
      (λ h e e'. rw (e, e') (put_refused l at (c ∷ vs) (length vs + 1) (omega arith) (lt-leb (at + (length vs + 1)) (length l) (omega arith))))

-- Texts that are put one after the other are put as one, where there is room for all.
pub put-each : (ts : List (List ℕ)) (l : List ℕ) (at : ℕ) → at + length (joined ts) ≤ length l
    → put_each l at ts ≡ record { next = at + length (joined ts); bytes = overwrite l at (joined ts) }
unfolding put_each joined next_place written
put-each [] l at h = rw (add-zero, overwrite-nil l at)
put-each (t ∷ ts) l at h =
    let total : length (t ++ joined ts) ≡ length t + length (joined ts) = length-append t (joined ts) in
    let first : at + length t ≤ length l = omega (arith, total) in
    let long = length-overwrite l at t first in
    rw (le-leb (at + length t) (length l) first)
    (put-each ts (overwrite l at t) (at + length t) (omega (arith, total, long))
    ∙ rw (overwrite-append l at t (joined ts) (omega (arith, total)), total, add_assoc))

-- A text, and those after it.
pub put-each-first : (l : List ℕ) (at : ℕ) (t : List ℕ) (ts : List (List ℕ)) {r : ℕ} {l' : List ℕ} → Put l at t r l' → put_each l' r ts ≡ put_each l at (t ∷ ts)
unfolding put_each
put-each-first l at t ts put = rw (put.next, put.bytes)
