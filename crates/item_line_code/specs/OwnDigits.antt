-- Numbers that are read where they stand, digit by digit. Assumes nothing.
use Rattle.std.specs.Prelude.{ℕ, ◌+◌, ◌-◌, ◌^◌, ◌≤◌, ◌<◌, ◌≡◌, true, List, length, get_or, drop}
use Rattle.numeral.specs.Digit.{are_digits, value_of}
use Rattle.item_line_code.specs.declared.Form.{Form}
use Rattle.text.specs.Text.{Text, is_blank, words_after, words}
use Rattle.text_code.specs.OwnWords.{between}
use Rattle.item_line_code.specs.OwnNumbers.{tallied}

-- From i to before j stand digits of the value v, m of them and eight at most, and a word begins with them.
pub record DigitsAt (s : Text) (i j m v : ℕ) : Type 0 where
  pub low : i ≤ j
  pub high : j ≤ length s
  pub within : j ≤ i + m
  pub eight : j ≤ i + 8
  pub all : are_digits 16 (between i j s) ≡ true
  pub value : v ≡ value_of 16 0 (between i j s)
  pub small : v < 16 ^ (j - i)
  pub begun : words (drop i s) ≡ words_after (between i j s) (drop j s)

-- From i to before j stand some bytes, n of them at least, and no word goes on after them.
pub record WholeAt (s : Text) (i j n : ℕ) : Type 0 where
  pub some : i < j
  pub long : i + n ≤ j
  pub stops : j < length s → is_blank (get_or s j 0) ≡ true

-- After the blank at i stand two digits of the value v, and no third.
pub record PairAt (s : Text) (i v : ℕ) : Type 0 where
  pub alike : words (drop (i + 1) s) ≡ words (drop i s)
  pub digits : DigitsAt s (i + 1) (i + 3) 2 v
  pub whole : WholeAt s (i + 1) (i + 3) 2

-- From the place `at` on, after n numbers in l, numbers were stored up to the place i: c are in l', and the rest comes to the same.
pub record Passed (f : Form) (s : Text) (at n : ℕ) (l : List ℕ) (i c : ℕ) (l' : List ℕ) : Type 0 where
  pub low : at ≤ i
  pub high : i ≤ length s
  pub count : c + at ≤ n + i
  pub alike : (k u : ℕ) → tallied f c k u l' (words (drop i s)) ≡ tallied f n k u l (words (drop at s))
