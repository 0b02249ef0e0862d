-- Names, in plain numbers. Assumes nothing.
use Prim.Native.Nat.{ℕ}
use mathlib.Core.Bool.{true, false}
use mathlib.Core.List.{List, [], ◌∷◌}
use mathlib.Core.Path.{◌≡◌, refl}
use Rattle.line_buffer.specs.Lines.{has_line, with_first, lines_in, rest_in, last_line, text_lines, whole_text}
use Rattle.file_names.specs.Held.{held_bytes, held_count}
use Rattle.file_names.specs.Names.{named, names_in, names_of, ended_names, ends_name}

-- `a`, an empty line, `bc`, and `d` without a line feed.
abbrev text : List ℕ
text = 97 ∷ 10 ∷ 10 ∷ 98 ∷ 99 ∷ 10 ∷ 100 ∷ []

three : names_of 4096 text ≡ (97 ∷ []) ∷ (98 ∷ 99 ∷ []) ∷ (100 ∷ []) ∷ []
unfolding names_of names_in named text_lines lines_in with_first rest_in has_line last_line
three = refl

-- Where the list breaks off behind `d`, that is none.
broken-off : ended_names 4096 text ≡ (97 ∷ []) ∷ (98 ∷ 99 ∷ []) ∷ []
unfolding ended_names names_in named lines_in with_first
broken-off = refl

-- A name has room for one byte.
first-bytes : names_of 1 text ≡ (97 ∷ []) ∷ (98 ∷ []) ∷ (100 ∷ []) ∷ []
unfolding names_of names_in named text_lines lines_in with_first rest_in has_line last_line
first-bytes = refl

-- A carriage return, a blank and a zero are bytes of a name.
any-byte : names_of 4096 (97 ∷ 13 ∷ 10 ∷ 32 ∷ 10 ∷ 0 ∷ 10 ∷ []) ≡ (97 ∷ 13 ∷ []) ∷ (32 ∷ []) ∷ (0 ∷ []) ∷ []
unfolding names_of names_in named text_lines lines_in with_first rest_in has_line last_line
any-byte = refl

none : (names_of 4096 [] ≡ []) × (names_of 4096 (10 ∷ 10 ∷ []) ≡ [])
unfolding names_of names_in named text_lines lines_in with_first rest_in has_line last_line
none = (refl, refl)

-- The same text in two pieces, the first of which ends within `bc`.
two-pieces : whole_text ((97 ∷ 10 ∷ 10 ∷ 98 ∷ []) ∷ (99 ∷ 10 ∷ 100 ∷ []) ∷ []) ≡ text
unfolding whole_text
two-pieces = refl

-- A line feed ends a name that has bytes; no other byte does.
ends-a-name : (ends_name 10 1 ≡ true) × (ends_name 10 2 ≡ true) × (ends_name 10 0 ≡ false) × (ends_name 0 1 ≡ false) × (ends_name 9 1 ≡ false)
    × (ends_name 11 1 ≡ false)
unfolding ends_name
ends-a-name = (refl, refl, refl, refl, refl, refl)

-- A byte behind the two that a buffer of three holds, and none behind three.
one_more : (held_bytes (97 ∷ 98 ∷ 0 ∷ []) 2 99 ≡ 97 ∷ 98 ∷ 99 ∷ []) × (held_count (97 ∷ 98 ∷ 0 ∷ []) 2 ≡ 3) × (held_bytes (97 ∷ 98 ∷ 99 ∷ []) 3 100 ≡ 97 ∷ 98 ∷ 99 ∷ [])
    × (held_count (97 ∷ 98 ∷ 99 ∷ []) 3 ≡ 3)
unfolding held_bytes held_count
one_more = (refl, refl, refl, refl)
