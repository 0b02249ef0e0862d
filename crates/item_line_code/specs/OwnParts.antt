-- Split of a line whose words are read. Assumes nothing.
use Rattle.std.specs.Prelude.{ℕ, ◌≤◌, ◌<◌, Bool, true, List, [], ◌∷◌, ◌≡◌, length, get_or}
use Rattle.unit.specs.Choice.{pick, either, both}
use Rattle.text.specs.declared.Span.{Span}
use Rattle.text.specs.Text.{Text, is_blank, words, is}
use Rattle.text.specs.OwnPart.{part}
use Rattle.item_line.specs.Reading.{before_mark, behind_mark, without_comment}
use Rattle.item_line.specs.OwnRead.{as_expected}
use Rattle.item_line_code.specs.declared.Cut.{Cut}
use Rattle.item_line_code.specs.declared.Split.{Split}

-- A part of a line that is not too long.
pub record Within (text : Text) (rest : Span) : Type 0 where
  pub ordered : rest.start ≤ rest.end
  pub high : rest.end ≤ length text
  pub short : rest.end ≤ 1000

-- The words of a part.
abbrev pub words_in : Text → Span → List Text
words_in text rest = words (part text rest)

-- What is left of a part after a word.
abbrev pub after : Span → Span → Span
after word rest = record { start = word.end; end = rest.end }

-- No word goes on at a place before the end of a part.
abbrev pub Opens : Text → ℕ → ℕ → Type 0
Opens text at end = at < end → is_blank (get_or text at 0) ≡ true

-- The first word of a part is r, or there is none and r is empty.
pub record NextIn (text : Text) (rest r : Span) : Type 0 where
  pub low : rest.start ≤ r.start
  pub ordered : r.start ≤ r.end
  pub high : r.end ≤ rest.end
  pub some : r.start < r.end → words_in text rest ≡ part text r ∷ words_in text (after r rest)
  pub none : r.end ≤ r.start → words_in text rest ≡ []
  pub stops : r.start < r.end → Opens text r.end rest.end

-- A word that ends what counts of a line: a comment's, and the mark where it counts.
unfoldable pub is_stop : Bool → Text → Bool
is_stop marks w = either (is "#" w) (both marks (is "=>" w))

-- The words before the first such word, and those from it on.
unfoldable pub until_stop : Bool → List Text → List Text
until_stop marks [] = []
until_stop marks (w ∷ ws) = pick (is_stop marks w) [] (w ∷ until_stop marks ws)

unfoldable pub from_stop : Bool → List Text → List Text
from_stop marks [] = []
from_stop marks (w ∷ ws) = pick (is_stop marks w) (w ∷ ws) (from_stop marks ws)

-- What a part comes to when it is cut at such a word; the word is empty where there is none.
pub record CutAt (marks : Bool) (text : Text) (rest : Span) (r : Cut) : Type 0 where
  pub low : rest.start ≤ r.end
  pub high : r.end ≤ rest.end
  pub before : words_in text (record { start = rest.start; end = r.end }) ≡ until_stop marks (words_in text rest)
  pub inside : r.word.end ≤ rest.end
  pub some : r.word.start < r.word.end → from_stop marks (words_in text rest) ≡ part text r.word ∷ words_in text (after r.word rest)
  pub none : r.word.end ≤ r.word.start → from_stop marks (words_in text rest) ≡ []
  pub stops : r.word.start < r.word.end → Opens text r.word.end rest.end

-- A line's words before its mark, and what it expects.
pub record SplitAt (text : Text) (rest : Span) (r : Split) : Type 0 where
  pub within : Within text r.before
  pub before : words_in text r.before ≡ before_mark (without_comment (words_in text rest))
  pub expected : as_expected text r.expected ≡ behind_mark (without_comment (words_in text rest))
