-- Numbers that are read where they stand, digit by digit. Assumes nothing.
use Rattle.std.specs.Prelude.{ℕ, ◌+◌, ◌-◌, ◌^◌, ◌≤◌, ◌<◌, ◌≡◌, true, List, length, get_or, drop}
use Rattle.numeral.specs.Digit.{are_digits, value_of}
use Rattle.line.specs.declared.Form.{Form}
use Rattle.line.specs.Words.{is_blank, words_after, words, part}
use Rattle.line.specs.Numbers.{tallied}

-- From i to before j stand digits of the value v, m of them and eight at most, and a word begins with them.
pub record DigitsAt (s : List ℕ) (i j m v : ℕ) : Type 0 where
  pub low : i ≤ j
  pub high : j ≤ length s
  pub within : j ≤ i + m
  pub eight : j ≤ i + 8
  pub all : are_digits 16 (part i j s) ≡ true
  pub value : v ≡ value_of 16 0 (part i j s)
  pub small : v < 16 ^ (j - i)
  pub begun : words (drop i s) ≡ words_after (part i j s) (drop j s)

-- From i to before j stand some bytes, n of them at least, and no word goes on after them.
pub record WholeAt (s : List ℕ) (i j n : ℕ) : Type 0 where
  pub some : i < j
  pub long : i + n ≤ j
  pub stops : j < length s → is_blank (get_or s j 0) ≡ true

-- Behind the blank at i stand two digits of the value v, and no third.
pub record PairAt (s : List ℕ) (i v : ℕ) : Type 0 where
  pub alike : words (drop (i + 1) s) ≡ words (drop i s)
  pub digits : DigitsAt s (i + 1) (i + 3) 2 v
  pub whole : WholeAt s (i + 1) (i + 3) 2

-- From the place `at` on, with n numbers in l, numbers were stored up to the place i: c are in l', and to go on from there comes to the same.
pub record Passed (f : Form) (s : List ℕ) (at n : ℕ) (l : List ℕ) (i c : ℕ) (l' : List ℕ) : Type 0 where
  pub low : at ≤ i
  pub high : i ≤ length s
  pub count : c + at ≤ n + i
  pub alike : (k u : ℕ) → tallied f c k u l' (words (drop i s)) ≡ tallied f n k u l (words (drop at s))
