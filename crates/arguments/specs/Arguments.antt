-- What the arguments of the program ask for:
--
--     replay [--check] [--of N] [--files LIST] [--] [FILE ..]
--
-- The words are those behind the program's name, and the first of them stands at place 1. A word that is longer than the caller's buffer is
-- handed over as one of no bytes. Assumes nothing.
use Rattle.std.specs.Prelude.{ℕ, ◌+◌, Bool, true, false, cond, List, [], ◌∷◌, eqb, ltb, length, drop, Option, Some, None}
use Rattle.numeral.specs.Ascii.{ascii}
use Rattle.numeral.specs.Read.{read_decimal}
use Rattle.line.specs.Words.{same_bytes}
use Rattle.arguments.specs.declared.Options.{Options}

-- The first word is this text.
unfoldable pub begins : List ℕ → List (List ℕ) → Bool
begins text [] = false
begins text (w ∷ ws) = same_bytes w text

-- What is no number is 0.
abbrev pub value_of : Option ℕ → ℕ
value_of (Some v) = v
value_of None = 0

-- The N of `--of` is a number up to 4,294,967,295, and any other word is 0;
abbrev pub number_of : List ℕ → ℕ
number_of w = value_of (read_decimal 4294967295 w)

-- so is a missing one.
unfoldable pub first_number : List (List ℕ) → ℕ
first_number [] = 0
first_number (w ∷ ws) = number_of w

-- At last the files: all words that are left, the first of them at this place.
unfoldable pub from_first : Bool → ℕ → ℕ → ℕ → List (List ℕ) → Options
from_first check total list place ws = record { check = check; total = total; list = list; first = place; files = length ws }

-- Before them `--` may stand, which is no file.
unfoldable pub from_dashes : Bool → ℕ → ℕ → ℕ → List (List ℕ) → Options
from_dashes check total list place ws =
    cond (begins (ascii "--") ws) (from_first check total list (place + 1) (drop 1 ws)) (from_first check total list place ws)

-- Before that `--files LIST` may stand. The list is at the place behind `--files`, even where no word stands there.
unfoldable pub from_files : Bool → ℕ → ℕ → List (List ℕ) → Options
from_files check total place ws =
    cond (begins (ascii "--files") ws) (from_dashes check total (place + 1) (place + 2) (drop 2 ws)) (from_dashes check total 0 place ws)

-- Before that `--of N` may stand, which tells how many files there are.
unfoldable pub from_of : Bool → ℕ → List (List ℕ) → Options
from_of check place ws = cond (begins (ascii "--of") ws) (from_files check (first_number (drop 1 ws)) (place + 2) (drop 2 ws)) (from_files check 0 place ws)

-- Before that `--check` may stand, as the first word.
unfoldable pub options_of : List (List ℕ) → Options
options_of ws = cond (begins (ascii "--check") ws) (from_of true 2 (drop 1 ws)) (from_of false 1 ws)

-- "Of several files, .. and with `--check` .. a summary closes the run"; of a list of files too. One file by itself, and standard input where
-- no file is named, have neither heading nor summary.
unfoldable pub is_several : Options → Bool
is_several o = cond o.check true (cond (eqb o.list 0) (ltb 1 o.files) true)
