-- The words of a line. Assumes nothing.
use Rattle.std.specs.Prelude.{ℕ, ◌-◌, ◌≤◌, ◌<◌, ◌≡◌, Bool, true, false, cond, List, [], ◌∷◌, ◌++◌, eqb, length, get_or, take, drop}

-- Blank or tab.
unfoldable pub is_blank : ℕ → Bool
is_blank c = cond (eqb c 32) true (eqb c 9)

-- A word that has ended, before those that follow. No byte is no word.
unfoldable pub ended : List ℕ → List (List ℕ) → List (List ℕ)
ended [] ws = ws
ended (c ∷ w) ws = (c ∷ w) ∷ ws

-- The words of bytes, after the bytes w of a word that has begun.
unfoldable pub words_after : List ℕ → List ℕ → List (List ℕ)
words_after w [] = ended w []
words_after w (c ∷ cs) = cond (is_blank c) (ended w (words_after [] cs)) (words_after (w ++ (c ∷ [])) cs)

-- A line is words parted by blanks or tabs, one or more, and such before the first word and after the last count for nothing.
unfoldable pub words : List ℕ → List (List ℕ)
words cs = words_after [] cs

-- The bytes from a place to before another.
abbrev pub part : ℕ → ℕ → List ℕ → List ℕ
part i j s = take (j - i) (drop i s)

-- Whether two lists have the same bytes.
unfoldable pub same_bytes : List ℕ → List ℕ → Bool
same_bytes [] [] = true
same_bytes [] (y ∷ ys) = false
same_bytes (x ∷ xs) [] = false
same_bytes (x ∷ xs) (y ∷ ys) = cond (eqb x y) (same_bytes xs ys) false

-- From a place on, the first byte that is no blank stands at i, or i is the end.
pub record Skipped (s : List ℕ) (at i : ℕ) : Type 0 where
  pub low : at ≤ i
  pub high : i ≤ length s
  pub alike : words (drop i s) ≡ words (drop at s)
  pub stops : i < length s → is_blank (get_or s i 0) ≡ false

-- A word from a place to before i.
pub record Ended (s : List ℕ) (at i : ℕ) : Type 0 where
  pub low : at < i
  pub high : i ≤ length s
  pub first : words (drop at s) ≡ part at i s ∷ words (drop i s)
  pub stops : i < length s → is_blank (get_or s i 0) ≡ true

-- From a place on, the first word is from i to before j, or there is none and i ≡ j.
pub record Next (s : List ℕ) (at i j : ℕ) : Type 0 where
  pub low : at ≤ i
  pub ordered : i ≤ j
  pub high : j ≤ length s
  pub some : i < j → words (drop at s) ≡ part i j s ∷ words (drop j s)
  pub none : j ≤ i → words (drop at s) ≡ []
  pub stops : i < j → j < length s → is_blank (get_or s j 0) ≡ true
