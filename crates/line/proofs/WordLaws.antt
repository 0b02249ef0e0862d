-- What the definitions of `Words` come to, place by place. Assumes nothing.
use Prim.Native.Nat.{ℕ, suc, ◌+◌, ◌-◌, ◌≤◌, ◌<◌}
use mathlib.Core.Path.{◌≡◌, refl}
use mathlib.Core.Bool.{Bool, true, false, cond}
use mathlib.Core.List.{List, [], ◌∷◌}
use native.Mathlib.Decide.{dec_le}
use native.Mathlib.Numerals.{add-one}
use native.Mathlib.Omega.{arith}
use lib.Dec.{leb, eqb}
use lib.ListN.{length, get_or, drop, length-take, length-drop, drop_of_length-le}
use lib.Seq.{drop-cons, take-suc, get_or-drop}
use borrow.Author.Tests.{eq-eqb, ne_eqb, eqb-true, le-leb, lt-leb}
use Rattle.line.specs.Words.{is_blank, ended, words_after, words, part, same_bytes}

pub length_part : (i j : ℕ) (s : List ℕ) → j ≤ length s → length (part i j s) ≡ j - i
length_part i j s h = simp (length-take, length-drop) (omega arith)

ended_some : (w : List ℕ) (ws : List (List ℕ)) → 0 < length w → ended w ws ≡ w ∷ ws
unfolding ended
ended_some [] ws h = absurd (omega arith)
ended_some (c ∷ w) ws h = refl

-- Past the end there is no word.
pub words-end : (s : List ℕ) (i : ℕ) → length s ≤ i → words (drop i s) ≡ []
unfolding words words_after ended
words-end s i h = rw (drop_of_length-le s h)

module _ (s : List ℕ) (i : ℕ) (inside : i < length s) where
  -- A blank before a word counts for nothing.
  pub words-blank : is_blank (get_or s i 0) ≡ true → words (drop (i + 1) s) ≡ words (drop i s)
  unfolding words words_after ended
  words-blank e = rw (add-one, drop-cons s i 0 inside, e)

  pub word-begins : is_blank (get_or s i 0) ≡ false → words (drop i s) ≡ words_after (part i (i + 1) s) (drop (i + 1) s)
  unfolding words words_after
  word-begins e =
      let one : i + 1 - i ≡ 1 = omega arith in
      rw (one, add-one, drop-cons s i 0 inside, e)

  pub word-grows : (at : ℕ) → at ≤ i → is_blank (get_or s i 0) ≡ false → words_after (part at i s) (drop i s) ≡ words_after (part at (i + 1) s) (drop (i + 1) s)
  unfolding words_after
  word-grows at h e =
      let more : i + 1 - at ≡ suc (i - at) = omega arith in
      let there : at + (i - at) ≡ i = omega arith in
      let room : i - at < length (drop at s) = rw length-drop (omega arith) in
      rw (more, take-suc (drop at s) (i - at) 0 room, get_or-drop at s (i - at) 0, there, add-one, drop-cons s i 0 inside, e)

  -- A blank ends a word.
  pub word-stops : (at : ℕ) → at < i → is_blank (get_or s i 0) ≡ true → words_after (part at i s) (drop i s) ≡ part at i s ∷ words (drop i s)
  unfolding words words_after ended
  word-stops at h e =
      let some : 0 < length (part at i s) = rw (length_part at i s (omega arith)) (omega arith) in
      rw (drop-cons s i 0 inside, e) (ended_some (part at i s) _ some)

-- The end of the bytes ends a word.
pub word-ends : (s : List ℕ) (at i : ℕ) → at < i → i ≤ length s → length s ≤ i → words_after (part at i s) (drop i s) ≡ part at i s ∷ words (drop i s)
unfolding words words_after ended
word-ends s at i h high all =
    let some : 0 < length (part at i s) = rw (length_part at i s high) (omega arith) in
    rw (drop_of_length-le s all) (ended_some (part at i s) [] some)

module _ (a b : List ℕ) (i : ℕ) where
  pub same-goes-on : i < length a → i < length b → get_or a i 0 ≡ get_or b i 0 → same_bytes (drop (i + 1) a) (drop (i + 1) b) ≡ same_bytes (drop i a) (drop i b)
  unfolding same_bytes
  same-goes-on ha hb e = rw (add-one, drop-cons a i 0 ha, drop-cons b i 0 hb, eq-eqb (get_or a i 0) (get_or b i 0) e)

  pub same_differs : i < length a → i < length b → (get_or a i 0 ≡ get_or b i 0 → ⊥) → same_bytes (drop i a) (drop i b) ≡ false
  unfolding same_bytes
  same_differs ha hb e = rw (drop-cons a i 0 ha, drop-cons b i 0 hb, ne_eqb (get_or a i 0) (get_or b i 0) e)

  pub same-longer : i < length a → length b ≤ i → same_bytes (drop i a) (drop i b) ≡ false
  unfolding same_bytes
  same-longer ha hb = rw (drop-cons a i 0 ha, drop_of_length-le b hb)

  pub same_ends : length a ≤ i → same_bytes (drop i a) (drop i b) ≡ leb (length b) i
  unfolding same_bytes
  same_ends ha = go (dec_le (length b) i)
    where
      go : Dec (length b ≤ i) → same_bytes (drop i a) (drop i b) ≡ leb (length b) i
      go (yes p) = rw (drop_of_length-le a ha, drop_of_length-le b p, le-leb (length b) i p)
      go (no p) =
          let h : i < length b = omega arith in
          rw (drop_of_length-le a ha, drop-cons b i 0 h, lt-leb (length b) i h)

-- The test is true of equal lists and of no others.
pub same_self : (a : List ℕ) → same_bytes a a ≡ true
unfolding same_bytes
same_self [] = refl
same_self (x ∷ xs) = rw (eq-eqb x x refl) (same_self xs)

pub same-equal : (a b : List ℕ) → same_bytes a b ≡ true → a ≡ b
unfolding same_bytes
same-equal [] [] e = refl
same-equal [] (y ∷ ys) e = let z : ◌≡◌ {A = ℕ} 0 1 = cc in absurd (omega arith)
same-equal (x ∷ xs) [] e = let z : ◌≡◌ {A = ℕ} 0 1 = cc in absurd (omega arith)
same-equal (x ∷ xs) (y ∷ ys) e = go (eqb x y) refl e (same-equal xs ys)
  where
    go : (t : Bool) → eqb x y ≡ t → cond t (same_bytes xs ys) false ≡ true → (same_bytes xs ys ≡ true → xs ≡ ys) → ◌≡◌ {A = List ℕ} (x ∷ xs) (y ∷ ys)
    go true p q rest = cc (eqb-true x y p, rest q)
    go false p q rest = let z : ◌≡◌ {A = ℕ} 0 1 = cc in absurd (omega arith)
