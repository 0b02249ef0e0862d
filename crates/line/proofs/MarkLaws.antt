-- What the definitions of `Mark` come to. Assumes nothing.
use Prim.Native.Nat.{ℕ, zero, suc, ◌+◌, ◌-◌, ◌≤◌, ◌<◌}
use mathlib.Core.Path.{◌≡◌, refl, sym, ap, ◌∙◌}
use mathlib.Core.Bool.{Bool, true, false, cond}
use mathlib.Core.List.{List, [], ◌∷◌, ◌++◌, append-nil, append_assoc}
use native.Mathlib.Decide.{dec_le}
use native.Mathlib.Omega.{arith}
use lib.ListN.{length, get_or, take, drop, length-append, take-append-drop, drop_of_length-le}
use lib.Seq.{drop-cons, drop-drop, take-add, drop_at, take-append_seam, length-take-le, take-length}
use Rattle.line.specs.Words.{is_blank, ended, words_after, words, part, Next}
use Rattle.line.specs.Mark.{is_mark, before_mark, behind_mark, expected_words, CallPart, behind_place, Expects}
use borrow.Author.Tests.{lt-ltb, le-ltb}

-- A word does not go on with these bytes.
abbrev Stops : List ℕ → Type 0
Stops [] = Unit
Stops (c ∷ cs) = is_blank c ≡ true

ended-append : (w : List ℕ) (a b : List (List ℕ)) → ended w (a ++ b) ≡ ended w a ++ b
unfolding ended
ended-append [] a b = refl
ended-append (c ∷ w) a b = refl

after-append : (xs w ys : List ℕ) → Stops ys → words_after w (xs ++ ys) ≡ words_after w xs ++ words_after [] ys
unfolding words_after ended
after-append [] w [] h = sym (append-nil _)
after-append [] w (c ∷ ys) h = rw h (ended-append w [] (words_after [] ys))
after-append (c ∷ xs) w ys h = go (is_blank c) (after-append xs [] ys h) (after-append xs (w ++ (c ∷ [])) ys h)
  where
    go : (t : Bool) → words_after [] (xs ++ ys) ≡ words_after [] xs ++ words_after [] ys
        → words_after (w ++ (c ∷ [])) (xs ++ ys) ≡ words_after (w ++ (c ∷ [])) xs ++ words_after [] ys
        → cond t (ended w (words_after [] (xs ++ ys))) (words_after (w ++ (c ∷ [])) (xs ++ ys)) ≡ cond t (ended w (words_after [] xs)) (words_after (w ++ (c ∷ [])) xs) ++ words_after [] ys
    go true one other = rw one (ended-append w _ _)
    go false one other = other

words_append : (xs ys : List ℕ) → Stops ys → words (xs ++ ys) ≡ words xs ++ words ys
unfolding words
words_append xs ys h = after-append xs [] ys h

cancel : {A : Type 0} (a b r : List A) → a ++ r ≡ b ++ r → a ≡ b
cancel a b r e =
    let long : length a ≡ length b = omega (arith, sym (length-append a r) ∙ ap length e ∙ length-append b r) in
    sym (take-append_seam a r) ∙ rw (long, e) (take-append_seam b r)

module _ (s : List ℕ) where
  abbrev Blank : ℕ → Type 0
  Blank i = i < length s → is_blank (get_or s i 0) ≡ true

  stops-drop : (i : ℕ) → Blank i → Stops (drop i s)
  stops-drop i h = go (dec_le (length s) i)
    where
      go : Dec (length s ≤ i) → Stops (drop i s)
      go (yes p) = rw (drop_of_length-le s p) tt
      go (no p) = let q : i < length s = omega arith in rw (drop-cons s i 0 q) (h q)

  stops-part : (i j : ℕ) → Blank i → Stops (part i j s)
  stops-part i j h = go (j - i) (drop i s) (stops-drop i h)
    where
      go : (n : ℕ) (l : List ℕ) → Stops l → Stops (take n l)
      go zero l h = tt
      go (suc n) [] h = tt
      go (suc n) (c ∷ l) h = h

  part-drop : (i j : ℕ) → i ≤ j → part i j s ++ drop j s ≡ drop i s
  part-drop i j h =
      let there : i + (j - i) ≡ j = omega arith in
      ap (λ (n : ℕ). part i j s ++ drop n s) (sym there) ∙ ap (λ (t : List ℕ). part i j s ++ t) (sym (drop-drop (j - i) i s)) ∙ take-append-drop (j - i) (drop i s)

  part-part : (at i j : ℕ) → at ≤ i → i ≤ j → part at j s ≡ part at i s ++ part i j s
  part-part at i j h h' =
      let sum : j - at ≡ (i - at) + (j - i) = omega arith in
      let there : at + (i - at) ≡ i = omega arith in
      rw sum (take-add (i - at) (j - i) (drop at s) ∙ ap (λ (t : List ℕ). part at i s ++ take (j - i) t) (drop-drop (i - at) at s ∙ ap (λ (n : ℕ). drop n s) there))

  drop-take : (at i : ℕ) → at ≤ i → i ≤ length s → drop at (take i s) ≡ part at i s
  drop-take at i h h' =
      let there : at + (i - at) ≡ i = omega arith in
      ap (λ (n : ℕ). drop at (take n s)) (sym there) ∙ ap (λ (t : List ℕ). drop at t) (take-add at (i - at) s)
      ∙ drop_at (take at s) (take (i - at) (drop at s)) at (length-take-le at s (omega arith))

  -- The bytes from a place to a word's end are that word.
  one_word : (i a b : ℕ) → Next s i a b → a < b → Blank b → words (part i b s) ≡ part a b s ∷ []
  one_word i a b n h stops =
      cancel (words (part i b s)) (part a b s ∷ []) (words (drop b s))
      (sym (words_append (part i b s) (drop b s) (stops-drop b stops)) ∙ ap words (part-drop i b (omega (arith, n.low, n.ordered))) ∙ n.some h)

-- The mark is looked for word by word, up to the place i.
pub record Looked (s : List ℕ) (at i : ℕ) : Type 0 where
  pub low : at ≤ i
  pub high : i ≤ length s
  pub stops : i < length s → is_blank (get_or s i 0) ≡ true
  pub before : before_mark (words (drop at s)) ≡ words (part at i s) ++ before_mark (words (drop i s))
  pub behind : behind_mark (words (drop at s)) ≡ behind_mark (words (drop i s))

module _ (s : List ℕ) (at : ℕ) where
  pub looked-first : at ≤ length s → (at < length s → is_blank (get_or s at 0) ≡ true) → Looked s at at
  unfolding words words_after ended
  looked-first h stops =
      let none : at - at ≡ 0 = omega arith in
      record { low = omega arith; high = h; stops = stops; before = rw none; behind = refl }

  -- The next word is no mark.
  pub looked-next : (i a b : ℕ) → Looked s at i → Next s i a b → a < b → is_mark (part a b s) ≡ false → Looked s at b
  unfolding before_mark behind_mark
  looked-next i a b k n h other =
      let one = one_word s i a b n h (n.stops h) in
      let both : words (part at b s) ≡ words (part at i s) ++ (part a b s ∷ []) =
      ap words (part-part s at i b k.low (omega (arith, n.low, n.ordered))) ∙ words_append (part at i s) (part i b s) (stops-part s i b k.stops) ∙ ap (λ (t : List (List ℕ)). words (part at i s) ++ t) one in
      record {
        low = omega (arith, k.low, n.low, n.ordered);
        high = n.high;
        stops = n.stops h;
        before = k.before ∙ rw (both, n.some h, other) (sym (append_assoc (words (part at i s)) (part a b s ∷ []) (before_mark (words (drop b s)))));
        behind = k.behind ∙ rw (n.some h, other);
      }

  -- There is a mark from a to before b.
  pub looked-mark : (i a b : ℕ) → Looked s at i → Next s i a b → a < b → is_mark (part a b s) ≡ true → CallPart true s at i b
  unfolding before_mark behind_mark
  looked-mark i a b k n h mark = record {
    low = k.low;
    ordered = omega (arith, n.low, n.ordered);
    high = n.high;
    call = ap words (drop-take s at i k.low k.high) ∙ sym (k.before ∙ rw (n.some h, mark) (append-nil _));
    some = λ _. k.behind ∙ rw (n.some h, mark);
    none = λ e. absurd (omega (arith, n.low));
  }

  -- There is no further word.
  pub looked-all : (i : ℕ) → Looked s at i → words (drop i s) ≡ [] → CallPart true s at i i
  unfolding before_mark behind_mark
  looked-all i k e = record {
    low = k.low;
    ordered = omega arith;
    high = k.high;
    call = ap words (drop-take s at i k.low k.high) ∙ sym (k.before ∙ rw e (append-nil _));
    some = λ h. absurd (omega arith);
    none = λ _. k.behind ∙ rw e;
  }

  -- A line that takes no mark is all call.
  pub whole-call : at ≤ length s → CallPart false s at (length s) (length s)
  whole-call h = record {
    low = h;
    ordered = omega arith;
    high = omega arith;
    call = rw (take-length s);
    some = λ h'. absurd (omega arith);
    none = λ _. refl;
  }

  -- What a line expects stands behind its mark.
  pub expects-of : (takes : Bool) (i j : ℕ) → CallPart takes s at i j → Expects (expected_words takes (words (drop at s))) s (behind_place i j)
  unfolding behind_place
  expects-of takes i j k = go (dec_le j i)
    where
      go : Dec (j ≤ i) → Expects (expected_words takes (words (drop at s))) s (behind_place i j)
      go (yes p) = rw (le-ltb i j p) (record { some = λ h. absurd (omega arith); none = λ _. k.none p })
      go (no p) = let q : i < j = omega arith in rw (lt-ltb i j q) (record { some = λ _. k.some q; none = λ e. absurd (omega arith) })

-- Where nothing is expected.
pub expects-none : (s : List ℕ) → Expects [] s 0
expects-none s = record { some = λ h. absurd (omega arith); none = λ _. refl }
