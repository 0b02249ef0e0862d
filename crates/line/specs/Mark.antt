-- The mark `=>` and the words that are expected behind it. Assumes nothing.
use Rattle.std.specs.Prelude.{ℕ, ◌≤◌, ◌<◌, ◌≡◌, Bool, true, false, cond, List, [], ◌∷◌, ltb, length, take, drop}
use Rattle.numeral.specs.Ascii.{ascii}
use Rattle.line.specs.declared.Keyword.{Keyword}
use Rattle.line.specs.Words.{words, same_bytes}

-- Any line but `item`, `show` and `expect` may end with `=>` and words that are expected.
unfoldable pub takes_mark : Keyword → Bool
takes_mark Keyword.Item = false
takes_mark Keyword.Bus = true
takes_mark Keyword.Tick = true
takes_mark Keyword.Flight = true
takes_mark Keyword.Temperature = true
takes_mark Keyword.Int = true
takes_mark Keyword.Awaited = true
takes_mark Keyword.Regs = true
takes_mark Keyword.Expect = false
takes_mark Keyword.Show = false
takes_mark Keyword.Set = true
takes_mark Keyword.At = true
takes_mark Keyword.Stretch = true
takes_mark Keyword.Frames = true
takes_mark Keyword.Probe = true
takes_mark Keyword.Degrees = true
takes_mark Keyword.Record = true
takes_mark Keyword.Listing = true
takes_mark Keyword.Quietest = true
takes_mark Keyword.Unknown = true

unfoldable pub is_mark : List ℕ → Bool
is_mark w = same_bytes w (ascii "=>")

-- The words before the first mark: all of them where there is none.
unfoldable pub before_mark : List (List ℕ) → List (List ℕ)
before_mark [] = []
before_mark (w ∷ ws) = cond (is_mark w) [] (w ∷ before_mark ws)

-- The words behind it, as the one element of a list: none where there is no mark.
unfoldable pub behind_mark : List (List ℕ) → List (List (List ℕ))
behind_mark [] = []
behind_mark (w ∷ ws) = cond (is_mark w) (ws ∷ []) (behind_mark ws)

-- The words of a line's call, and those that are expected of its answer.
abbrev pub call_words : Bool → List (List ℕ) → List (List ℕ)
call_words takes ws = cond takes (before_mark ws) ws

abbrev pub expected_words : Bool → List (List ℕ) → List (List (List ℕ))
expected_words takes ws = cond takes (behind_mark ws) []

-- From a place on, the call's words end at i, and the mark at j; where there is none i ≡ j.
pub record CallPart (takes : Bool) (s : List ℕ) (at i j : ℕ) : Type 0 where
  pub low : at ≤ i
  pub ordered : i ≤ j
  pub high : j ≤ length s
  pub call : words (drop at (take i s)) ≡ call_words takes (words (drop at s))
  pub some : i < j → expected_words takes (words (drop at s)) ≡ words (drop j s) ∷ []
  pub none : j ≤ i → expected_words takes (words (drop at s)) ≡ []

-- The place behind the mark, or 0.
unfoldable pub behind_place : ℕ → ℕ → ℕ
behind_place i j = cond (ltb i j) j 0

-- The words that are expected stand from the place e on; e is 0 where there is no mark.
pub record Expects (x : List (List (List ℕ))) (s : List ℕ) (e : ℕ) : Type 0 where
  pub some : 0 < e → x ≡ words (drop e s) ∷ []
  pub none : e ≡ 0 → x ≡ []
