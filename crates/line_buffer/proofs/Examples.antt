-- Lines, in plain numbers. Assumes nothing.
use mathlib.Core.Bool.{true, false}
use mathlib.Core.List.{List, [], ◌∷◌}
use mathlib.Core.Path.{◌≡◌, refl}
use Prim.Native.Nat.{ℕ}
use lib.ListN.{replicate}
use Rattle.line_buffer.specs.Lines.{has_line, line_of, behind_line, line_end, with_first, lines_in, rest_in, last_line, text_lines, whole_text, Reading, each_line, piece_read, pieces_read}

-- `a`, a line feed, `bc`, a line feed, `d`.
abbrev text : List ℕ
text = 97 ∷ 10 ∷ 98 ∷ 99 ∷ 10 ∷ 100 ∷ []

first : (has_line text ≡ true) × (line_of text ≡ 97 ∷ []) × (behind_line text ≡ 98 ∷ 99 ∷ 10 ∷ 100 ∷ []) × (line_end 2 text ≡ 4)
unfolding has_line line_of behind_line line_end
first = (refl, refl, refl, refl)

none : (has_line (100 ∷ []) ≡ false) × (line_of (100 ∷ []) ≡ 100 ∷ []) × (behind_line (100 ∷ []) ≡ []) × (line_end 0 (100 ∷ []) ≡ 1)
unfolding has_line line_of behind_line line_end
none = (refl, refl, refl, refl)

three : (lines_in text ≡ (97 ∷ []) ∷ (98 ∷ 99 ∷ []) ∷ []) × (rest_in text ≡ 100 ∷ [])
    × (text_lines text ≡ (97 ∷ []) ∷ (98 ∷ 99 ∷ []) ∷ (100 ∷ []) ∷ [])
unfolding lines_in with_first rest_in has_line text_lines last_line
three = (refl, refl, refl)

-- The text without its last byte: no line follows the last line feed. An empty line is a line.
ended : (text_lines (97 ∷ 10 ∷ []) ≡ (97 ∷ []) ∷ []) × (text_lines (10 ∷ 10 ∷ []) ≡ [] ∷ [] ∷ [])
unfolding lines_in with_first rest_in has_line text_lines last_line
ended = (refl, refl)

-- Where each line is kept, the last first: the same text in two pieces, the first of which ends within `bc`.
abbrev keep : List ℕ → List (List ℕ) → List (List ℕ)
keep line kept = line ∷ kept

cut-in-two : pieces_read keep ((97 ∷ 10 ∷ 98 ∷ []) ∷ (99 ∷ 10 ∷ 100 ∷ []) ∷ []) record { state = []; held = [] }
    ≡ (100 ∷ []) ∷ (98 ∷ 99 ∷ []) ∷ (97 ∷ []) ∷ []
unfolding pieces_read piece_read each_line lines_in with_first rest_in has_line last_line
cut-in-two = refl

as_one : whole_text ((97 ∷ 10 ∷ 98 ∷ []) ∷ (99 ∷ 10 ∷ 100 ∷ []) ∷ []) ≡ text
unfolding whole_text
as_one = refl

-- Of 1,003 bytes of a line that goes on, 1,002 are held.
held-most : piece_read keep (replicate 1003 97) record { state = []; held = [] } ≡ record { state = []; held = replicate 1002 97 }
unfolding piece_read each_line lines_in with_first rest_in has_line
held-most = refl
