-- The lines of what is read. What stands in quotation marks is that of docs/ITEMS.md. Assumes nothing.
use Rattle.std.specs.Prelude.{ℕ, ◌+◌, Bool, true, false, cond, List, [], ◌∷◌, ◌++◌, eqb, length, take, drop}

-- ---- one line

-- "A line ends with a line feed": whether bytes have one
unfoldable pub has_line : List ℕ → Bool
has_line [] = false
has_line (c ∷ cs) = cond (eqb c 10) true (has_line cs)

-- the bytes before the first, or all
unfoldable pub line_of : List ℕ → List ℕ
line_of [] = []
line_of (c ∷ cs) = cond (eqb c 10) [] (c ∷ line_of cs)

-- the bytes behind it, or none
unfoldable pub behind_line : List ℕ → List ℕ
behind_line [] = []
behind_line (c ∷ cs) = cond (eqb c 10) cs (behind_line cs)

-- where the line ends that goes on at a place
unfoldable pub line_end : ℕ → List ℕ → ℕ
line_end at bytes = at + length (line_of (drop at bytes))

-- ---- all lines

-- a byte more before the first line
unfoldable pub with_first : ℕ → List (List ℕ) → List (List ℕ)
with_first c [] = []
with_first c (l ∷ ls) = (c ∷ l) ∷ ls

-- the lines that end in these bytes, without their line feeds
unfoldable pub lines_in : List ℕ → List (List ℕ)
lines_in [] = []
lines_in (c ∷ cs) = cond (eqb c 10) ([] ∷ lines_in cs) (with_first c (lines_in cs))

-- the bytes behind the last line feed: the start of a line that goes on
unfoldable pub rest_in : List ℕ → List ℕ
rest_in [] = []
rest_in (c ∷ cs) = cond (has_line (c ∷ cs)) (rest_in cs) (c ∷ cs)

-- "the last one may lack it": the lines of a whole text
unfoldable pub last_line : List ℕ → List (List ℕ)
last_line [] = []
last_line (c ∷ cs) = (c ∷ cs) ∷ []

unfoldable pub text_lines : List ℕ → List (List ℕ)
text_lines text = lines_in text ++ last_line (rest_in text)

-- ---- a text that is read in pieces

-- the pieces as one text
unfoldable pub whole_text : List (List ℕ) → List ℕ
whole_text [] = []
whole_text (p ∷ ps) = p ++ whole_text ps

-- What is kept of the pieces before: what their lines left, and the start of the next line, of which no more is held than tells that it
-- is too long.
pub record Reading (S : Type 0) : Type 0 where
  pub state : S
  pub held : List ℕ

-- each line in turn
unfoldable pub each_line : {S : Type 0} → (List ℕ → S → S) → List (List ℕ) → S → S
each_line answer [] s = s
each_line answer (l ∷ ls) s = each_line answer ls (answer l s)

-- another piece
unfoldable pub piece_read : {S : Type 0} → (List ℕ → S → S) → List ℕ → Reading S → Reading S
piece_read answer piece r =
    let bytes = r.held ++ piece in record { state = each_line answer (lines_in bytes) r.state; held = take 1002 (rest_in bytes) }

-- all of them, and then the last line
unfoldable pub pieces_read : {S : Type 0} → (List ℕ → S → S) → List (List ℕ) → Reading S → S
pieces_read answer [] r = each_line answer (last_line r.held) r.state
pieces_read answer (p ∷ ps) r = pieces_read answer ps (piece_read answer p r)
