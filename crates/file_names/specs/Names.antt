-- The names of a list. Assumes nothing.
use Rattle.std.specs.Prelude.{ℕ, Bool, true, false, cond, List, [], ◌∷◌, ◌++◌, ◌≡◌, eqb, ltb, length, take}
use Rattle.file_names.specs.Held.{Held}
use Rattle.line_buffer.specs.Lines.{has_line, lines_in, rest_in, text_lines, whole_text}

-- ---- the names of a text

-- A name without bytes is none.
unfoldable pub named : List ℕ → List (List ℕ) → List (List ℕ)
named [] names = names
named (c ∷ cs) names = (c ∷ cs) ∷ names

-- A name a line: of each line the first bytes, as many as a name has room for
unfoldable pub names_in : ℕ → List (List ℕ) → List (List ℕ)
names_in room [] = []
names_in room (l ∷ ls) = named (take room l) (names_in room ls)

-- The names of a whole text, whose last line may lack its line feed.
unfoldable pub names_of : ℕ → List ℕ → List (List ℕ)
names_of room text = names_in room (text_lines text)

-- The names of those lines that end with a line feed.
unfoldable pub ended_names : ℕ → List ℕ → List (List ℕ)
ended_names room text = names_in room (lines_in text)

-- ---- a list that is read in pieces

-- A line was begun, and there are bytes that are read and not used. More pieces are read, and bytes are used: the lines that end with
-- these have the names; another line is begun, and other bytes are left.
pub record Passed (room : ℕ) (start left : List ℕ) (pieces names : List (List ℕ)) (start' left' : List ℕ) : Type 0 where
  pub used : List ℕ
  pub all : left ++ whole_text pieces ≡ used ++ left'
  pub ended : ended_names room (start ++ used) ≡ names
  pub rest : rest_in (start ++ used) ≡ start'

-- A buffer holds as much of the start of a line as it has room for.
pub record Begun (path : List ℕ) (n : ℕ) (start : List ℕ) : Type 0 where
  pub held : Held path n start
  pub line : has_line start ≡ false

-- Bytes were used, no name has ended with them, and the buffer holds the start of the line that is begun.
pub record Sought (start bytes left path : List ℕ) (n : ℕ) : Type 0 where
  pub start' : List ℕ
  pub passed : Passed (length path) start bytes [] [] start' left
  pub begun : Begun path n start'

-- A name ends with a line feed behind some bytes.
unfoldable pub ends_name : ℕ → ℕ → Bool
ends_name b n = cond (eqb b 10) (ltb 0 n) false

-- Whatever line was begun: one name has ended, which the buffer has, or all bytes are used and none has.
pub record NameTaken (bytes path : List ℕ) (n : ℕ) (path' : List ℕ) (whole : Bool) (left : List ℕ) (n' : ℕ) : Type 0 where
  pub name : whole ≡ true → (start : List ℕ) → Begun path n start → Passed (length path) start bytes [] (take n' path' ∷ []) [] left
  pub on : whole ≡ false → (start : List ℕ) → Begun path n start → Sought start bytes [] path' n'
