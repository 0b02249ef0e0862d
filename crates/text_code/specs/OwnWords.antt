-- Where the words of a text stand. Assumes nothing.
use Rattle.std.specs.Prelude.{ℕ, ◌-◌, ◌≤◌, ◌<◌, ◌≡◌, true, false, [], ◌∷◌, length, get_or, take, drop}
use Rattle.text.specs.Text.{Text, is_blank, words}

-- The bytes from a place to before another.
abbrev pub between : ℕ → ℕ → Text → Text
between i j s = take (j - i) (drop i s)

-- From a place on, the first byte that is no blank stands at i, or i is the end.
pub record Skipped (s : Text) (at i : ℕ) : Type 0 where
  pub low : at ≤ i
  pub high : i ≤ length s
  pub alike : words (drop i s) ≡ words (drop at s)
  pub stops : i < length s → is_blank (get_or s i 0) ≡ false

-- A word from a place to before i.
pub record Ended (s : Text) (at i : ℕ) : Type 0 where
  pub low : at < i
  pub high : i ≤ length s
  pub first : words (drop at s) ≡ between at i s ∷ words (drop i s)
  pub stops : i < length s → is_blank (get_or s i 0) ≡ true

-- From a place on, the first word is from i to before j, or there is none and i ≡ j; `rest` are the words after it.
pub record Next (s : Text) (at i j : ℕ) : Type 0 where
  pub low : at ≤ i
  pub ordered : i ≤ j
  pub high : j ≤ length s
  pub some : i < j → words (drop at s) ≡ between i j s ∷ words (drop j s)
  pub none : j ≤ i → words (drop at s) ≡ []
  pub rest : words (drop j s) ≡ drop 1 (words (drop at s))
  pub stops : i < j → j < length s → is_blank (get_or s j 0) ≡ true
