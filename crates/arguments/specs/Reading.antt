-- The code's own: the same words, read one by one. `read_all` in proofs/Laws.antt equates what they come to with `options_of`. Assumes nothing.
use Rattle.std.specs.Prelude.{ℕ, ◌+◌, ◌-◌, Bool, true, false, cond, List, [], ◌∷◌}
use Rattle.numeral.specs.Ascii.{ascii}
use Rattle.line.specs.Words.{same_bytes}
use Rattle.arguments.specs.declared.Options.{Options}
use Rattle.arguments.specs.declared.Stage.{Stage}
use Rattle.arguments.specs.declared.Stage.TheVariants.{Check, Of, Total, Files, Name, Dashes, Closed}
use Rattle.arguments.specs.declared.Found.{Found}
use Rattle.arguments.specs.declared.Reading.{Reading}
use Rattle.arguments.specs.Arguments.{number_of}

abbrev pub found : Bool → Bool → ℕ → Bool → Bool → Found
found check told total listed ended = record { check = check; told = told; total = total; listed = listed; ended = ended }

abbrev pub reading : Stage → Found → Reading
reading stage f = record { stage = stage; found = f }

-- ---- word by word

-- Before the first word.
abbrev pub begun : Reading
begun = reading Check (found false false 0 false false)

-- The word that closes the options: `--`, or the first file.
abbrev pub dashes_read : Found → List ℕ → Reading
dashes_read f w = reading Closed (found f.check f.told f.total f.listed (same_bytes w (ascii "--")))

-- Any word behind `--files` is the list.
abbrev pub name_read : Found → Reading
name_read f = reading Dashes f

unfoldable pub files_read : Found → List ℕ → Reading
files_read f w = cond (same_bytes w (ascii "--files")) (reading Name (found f.check f.told f.total true f.ended)) (dashes_read f w)

-- Any word behind `--of` is its N.
abbrev pub total_read : Found → List ℕ → Reading
total_read f w = reading Files (found f.check f.told (number_of w) f.listed f.ended)

unfoldable pub of_read : Found → List ℕ → Reading
of_read f w = cond (same_bytes w (ascii "--of")) (reading Total (found f.check true f.total f.listed f.ended)) (files_read f w)

unfoldable pub check_read : Found → List ℕ → Reading
check_read f w = cond (same_bytes w (ascii "--check")) (reading Of (found true f.told f.total f.listed f.ended)) (of_read f w)

abbrev pub read_at : Stage → Found → List ℕ → Reading
read_at Check f w = check_read f w
read_at Of f w = of_read f w
read_at Total f w = total_read f w
read_at Files f w = files_read f w
read_at Name f w = name_read f
read_at Dashes f w = dashes_read f w
read_at Closed f w = reading Closed f

abbrev pub next_read : Reading → List ℕ → Reading
next_read r w = read_at r.stage r.found w

unfoldable pub read_each : Reading → List (List ℕ) → Reading
read_each r [] = r
read_each r (w ∷ ws) = read_each (next_read r w) ws

-- Another word is needed.
abbrev pub open_at : Stage → Bool
open_at Check = true
open_at Of = true
open_at Total = true
open_at Files = true
open_at Name = true
open_at Dashes = true
open_at Closed = false

abbrev pub is_open : Reading → Bool
is_open r = open_at r.stage

-- ---- the places

-- How many places an option of so many words takes.
abbrev pub taken : Bool → ℕ → ℕ
taken there words = cond there words 0

-- The place at which `--files` stands, if it is there.
abbrev pub files_place : Found → ℕ
files_place f = 1 + taken f.check 1 + taken f.told 2

abbrev pub list_place : Found → ℕ
list_place f = cond f.listed (files_place f + 1) 0

abbrev pub first_place : Found → ℕ
first_place f = files_place f + taken f.listed 2 + taken f.ended 1

-- What the words that were read ask for, where there are n arguments, the program's name among them.
unfoldable pub asked : Reading → ℕ → Options
asked r n = record {
  check = r.found.check;
  total = r.found.total;
  list = list_place r.found;
  first = first_place r.found;
  files = n - first_place r.found;
}
