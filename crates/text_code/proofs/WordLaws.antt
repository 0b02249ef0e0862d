-- What the words of a text and their comparison come to, place by place. Assumes nothing.
use Prim.Native.Nat.{ℕ, suc, ◌+◌, ◌-◌, ◌≤◌, ◌<◌}
use mathlib.Core.Path.{◌≡◌, refl, ap}
use mathlib.Core.Bool.{Bool, true, false, ◌&&◌}
use mathlib.Core.List.{List, [], ◌∷◌, ◌++◌}
use native.Mathlib.Numerals.{add-one}
use native.Mathlib.Omega.{arith}
use lib.Dec.{eqb}
use lib.ListN.{length, get_or, drop, length-take, length-drop, drop_of_length-le}
use lib.Seq.{drop-cons, take-suc, get_or-drop}
use borrow.Author.Tests.{eq-eqb, ne_eqb}
use denote.Ref.{Bor}
use Rattle.std.specs.Prelude.{Option, Some, None, MatchOption}
use Rattle.std.specs.Cmp.Lexicographic.{pointwise}
use Rattle.unit.specs.Choice.{either, both}
use Rattle.unit.proofs.Cases.{by-test}
use Rattle.text.specs.Text.{Text, is_blank, begun_before, words_after, words, same, fits, begin_with}
use Rattle.text_code.specs.OwnWords.{between}

pub length-between : (i j : ℕ) (s : Text) → j ≤ length s → length (between i j s) ≡ j - i
length-between i j s h = simp (length-take, length-drop) (omega arith)

begun-some : (w : Text) (ws : List Text) → 0 < length w → begun_before w ws ≡ w ∷ ws
unfolding begun_before
begun-some [] ws h = absurd (omega arith)
begun-some (c ∷ w) ws h = refl

-- Past the end there is no word.
pub words-end : (s : Text) (i : ℕ) → length s ≤ i → words (drop i s) ≡ []
unfolding words words_after begun_before
words-end s i h = rw (drop_of_length-le s h)

module _ (s : Text) (i : ℕ) (inside : i < length s) where
  -- A blank before a word counts for nothing.
  pub words-blank : is_blank (get_or s i 0) ≡ true → words (drop (i + 1) s) ≡ words (drop i s)
  unfolding words words_after begun_before
  words-blank e = rw (add-one, drop-cons s i 0 inside, e)

  pub word-begins : is_blank (get_or s i 0) ≡ false → words (drop i s) ≡ words_after (between i (i + 1) s) (drop (i + 1) s)
  unfolding words words_after
  word-begins e =
      let one : i + 1 - i ≡ 1 = omega arith in
      rw (one, add-one, drop-cons s i 0 inside, e)

  pub word-grows : (at : ℕ) → at ≤ i → is_blank (get_or s i 0) ≡ false
      → words_after (between at i s) (drop i s) ≡ words_after (between at (i + 1) s) (drop (i + 1) s)
  unfolding words_after
  word-grows at h e =
      let more : i + 1 - at ≡ suc (i - at) = omega arith in
      let there : at + (i - at) ≡ i = omega arith in
      let room : i - at < length (drop at s) = rw length-drop (omega arith) in
      rw (more, take-suc (drop at s) (i - at) 0 room, get_or-drop at s (i - at) 0, there, add-one, drop-cons s i 0 inside, e)

  -- A blank ends a word.
  pub word-stops : (at : ℕ) → at < i → is_blank (get_or s i 0) ≡ true
      → words_after (between at i s) (drop i s) ≡ between at i s ∷ words (drop i s)
  unfolding words words_after begun_before
  word-stops at h e =
      let some : 0 < length (between at i s) = rw (length-between at i s (omega arith)) (omega arith) in
      rw (drop-cons s i 0 inside, e) (begun-some (between at i s) _ some)

-- The end of the bytes ends a word.
pub word-ends : (s : Text) (at i : ℕ) → at < i → i ≤ length s → length s ≤ i
    → words_after (between at i s) (drop i s) ≡ between at i s ∷ words (drop i s)
unfolding words words_after begun_before
word-ends s at i h high all =
    let some : 0 < length (between at i s) = rw (length-between at i s high) (omega arith) in
    rw (drop_of_length-le s all) (begun-some (between at i s) [] some)

-- A comparison byte for byte.
pub same_pointwise : (a b : Text) → pointwise eqb a b ≡ same a b
unfolding same
same_pointwise [] [] = refl
same_pointwise [] (d ∷ ds) = refl
same_pointwise (c ∷ cs) [] = refl
same_pointwise (c ∷ cs) (d ∷ ds) = go (eqb c d) (same_pointwise cs ds)
  where
    go : (t : Bool) → pointwise eqb cs ds ≡ same cs ds → (t && pointwise eqb cs ds) ≡ both t (same cs ds)
    go true e = e
    go false e = refl

pub fits_length : (a b : Text) → (length a ≡ length b → ⊥) → fits a b ≡ false
unfolding fits
fits_length [] [] ne = absurd (ne refl)
fits_length [] (d ∷ ds) ne = refl
fits_length (c ∷ cs) [] ne = refl
fits_length (c ∷ cs) (d ∷ ds) ne = go (either (eqb c 0x78) (eqb c d)) (fits_length cs ds (λ h. ne (ap suc h)))
  where
    go : (t : Bool) → fits cs ds ≡ false → both t (fits cs ds) ≡ false
    go true e = e
    go false e = refl

-- A byte meets one that is wanted where this is an x or the same.
pub meets-x : (c d : ℕ) → c ≡ 0x78 → either (eqb c 0x78) (eqb c d) ≡ true
meets-x c d e = rw (eq-eqb c 0x78 e)

pub meets-same : (c d : ℕ) → (c ≡ 0x78 → ⊥) → c ≡ d → either (eqb c 0x78) (eqb c d) ≡ true
meets-same c d ne e = rw (ne_eqb c 0x78 ne, eq-eqb c d e)

pub meets-no : (c d : ℕ) → (c ≡ 0x78 → ⊥) → (c ≡ d → ⊥) → either (eqb c 0x78) (eqb c d) ≡ false
meets-no c d ne other = rw (ne_eqb c 0x78 ne, ne_eqb c d other)

module _ (a b : Text) (i : ℕ) (ha : i < length a) (hb : i < length b) where
  pub fits-goes-on : either (eqb (get_or a i 0) 0x78) (eqb (get_or a i 0) (get_or b i 0)) ≡ true → fits (drop (i + 1) a) (drop (i + 1) b) ≡ fits (drop i a) (drop i b)
  unfolding fits
  fits-goes-on e = rw (add-one, drop-cons a i 0 ha, drop-cons b i 0 hb, e)

  pub fits-differs : either (eqb (get_or a i 0) 0x78) (eqb (get_or a i 0) (get_or b i 0)) ≡ false → fits (drop i a) (drop i b) ≡ false
  unfolding fits
  fits-differs e = rw (drop-cons a i 0 ha, drop-cons b i 0 hb, e)

pub fits-none : (a b : Text) (i : ℕ) → length a ≤ i → length b ≤ i → fits (drop i a) (drop i b) ≡ true
unfolding fits
fits-none a b i ha hb = rw (drop_of_length-le a ha, drop_of_length-le b hb)

-- Words are compared one after the other.
pub begin-none : (xs ws : List Text) → xs ≡ [] → begin_with xs ws ≡ true
unfolding begin_with
begin-none xs [] none = rw none
begin-none xs (w ∷ ws) none = rw none

module _ {x : Text} {xs wanted ws : List Text} (first : wanted ≡ x ∷ xs) where
  pub begin-short : ws ≡ [] → begin_with wanted ws ≡ false
  unfolding begin_with
  begin-short none = rw (first, none)

  pub begin-differs : {w : Text} {rest : List Text} → ws ≡ w ∷ rest → fits x w ≡ false → begin_with wanted ws ≡ false
  unfolding begin_with
  begin-differs word e = rw (first, word, e)

  pub begin-next : {w : Text} {rest : List Text} → ws ≡ w ∷ rest → fits x w ≡ true → begin_with xs rest ≡ begin_with wanted ws
  unfolding begin_with
  begin-next word e = rw (first, word, e)

-- Words after nothing and after the bytes of one that has begun.
abbrev Half : Text → Type 0
Half s =
    (length (words_after [] s) + length (words_after [] s) ≤ length s + 1)
    × ((c : ℕ) (b : Text) → length (words_after (c ∷ b) s) + length (words_after (c ∷ b) s) ≤ length s + 2)

half : (s : Text) → Half s
unfolding words_after begun_before
half [] = (omega arith, λ c b. omega arith)
half (d ∷ s) =
    let h = half s in
    by-test (is_blank d) (λ e. rw e (omega (arith, h.0), λ c b. omega (arith, h.0)))
    (λ e. rw e (omega (arith, h.1 d []), λ c b. omega (arith, h.1 c (b ++ (d ∷ [])))))

-- A text has at most one word for two of its bytes, and one more.
pub words-half : (s : Text) → length (words s) + length (words s) ≤ length s + 1
unfolding words
words-half s = (half s).0

-- What one step over the words of a text leaves.
pub others-left : (xs ys : List Text) (r : Option (Bor Text)) → MatchOption r ((xs ≡ []) × (ys ≡ [])) (λ x. xs ≡ x.now ∷ ys) → ys ≡ drop 1 xs
others-left xs ys (Some x) h = rw h
others-left xs ys None h = rw (h.0, h.1)
