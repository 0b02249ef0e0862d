-- What the rows of the page are made of. A row is texts that are put one after the other, without its line feed. What stands in
-- quotation marks in comments is the description of the page in `docs/ITEMS.md`. Assumes nothing.
use Rattle.std.specs.Prelude.{ℕ, ◌/◌, ◌%◌, cond, List, [], ◌∷◌, ◌++◌, ltb}
use Rattle.numeral.specs.Digit.{digits}
use Rattle.numeral.specs.Print.{decimal}
use Rattle.numeral.specs.Ascii.{ascii}
use Rattle.wording.specs.Wording.{Texts, line_feed}

-- a row, and its line feed
abbrev pub ended : Texts → Texts
ended row = row ++ (line_feed ∷ [])

-- rows one after the other, each with its line feed
unfoldable pub lines : List Texts → Texts
lines [] = []
lines (row ∷ rows) = ended row ++ lines rows

-- "Each row has the read address, the name of the data sheet, the word and its meaning": address and name are the label
unfoldable pub register_row : List ℕ → ℕ → Texts → Texts
register_row label w meaning = label ∷ digits 16 4 w ∷ ascii "      " ∷ meaning

-- "a result pair, Int and Frac, stands in one row": w has both
unfoldable pub pair_row : List ℕ → ℕ → Texts → Texts
pair_row label w meaning = label ∷ digits 16 4 (w / 65536) ∷ ascii " " ∷ digits 16 4 (w % 65536) ∷ ascii "  " ∷ meaning

-- "`stored only`: the model keeps the word and nothing depends on it"
unfoldable pub stored_row : List ℕ → ℕ → Texts
stored_row label w = register_row label w (ascii " stored only" ∷ [])

-- "`not carried`: the model leaves this out"
unfoldable pub absent_row : List ℕ → ℕ → Texts
absent_row label w = register_row label w (ascii " not carried" ∷ [])

unfoldable pub absent_pair : List ℕ → ℕ → Texts
absent_pair label w = pair_row label w (ascii "not carried" ∷ [])

-- a number, and what it counts: `1 hit`, `2 hits`
unfoldable pub plural : ℕ → List ℕ → Texts
plural n what = decimal n ∷ what ∷ cond (ltb n 2) [] (ascii "s" ∷ [])

-- a field of two bits: `10b`
unfoldable pub binary : ℕ → Texts
binary v = decimal (v / 2) ∷ decimal (v % 2) ∷ ascii "b" ∷ []
