-- Answers of which only the start is kept. What stands in quotation marks is that of docs/ITEMS.md. Assumes nothing.
use Rattle.std.specs.Prelude.{ℕ, ◌≤◌, ◌<◌, ◌≡◌, false, cond, List, [], ◌∷◌, length}
use Rattle.hit.specs.Mean.{All}
use Rattle.line_buffer.specs.Lines.{has_line}
use Rattle.item_checks.specs.Close.{place_of, begins_with, is_not_bad}
use Rattle.line_text.specs.Text.{differing_text}

-- The words that a line expects are few: each of these texts has at most 1,030 bytes.
abbrev pub Few : List (List ℕ) → Type 0
Few expected = All (λ (wanted : List ℕ). length wanted ≤ 1030) expected

-- The start of an answer's first line, of which no more than its first 2,048 bytes are kept: where it is longer, its first word has at
-- most four letters, and the words that the line expects are few.
pub record Startable (expected : List (List ℕ)) (gone : List ℕ) : Type 0 where
  pub feedless : has_line gone ≡ false
  pub early : 2048 < length gone → place_of 32 gone ≤ 4
  pub few : 2048 < length gone → Few expected

-- "What differs stands behind ` expected ` in the answer's first line": what then stands behind the start of that line, of the whole
-- answer and of the rest behind this start.
unfoldable pub judged_rest : List (List ℕ) → List ℕ → List ℕ → List ℕ → List ℕ
judged_rest [] counts answer rest = rest
judged_rest (wanted ∷ others) counts answer rest =
    cond (is_not_bad counts) (cond (begins_with wanted answer) rest (differing_text wanted rest)) rest
