-- What arguments ask for, in plain words and numbers. Assumes nothing.
use Prim.Native.Nat.{ℕ}
use Prim.Native.String.{String}
use mathlib.Core.Bool.{Bool, true, false}
use mathlib.Core.List.{List, [], ◌∷◌}
use mathlib.Core.Path.{◌≡◌, refl}
use Rattle.numeral.specs.Ascii.{ascii}
use Rattle.numeral.specs.Digit.{digit_of, are_digits, value_of}
use Rattle.numeral.specs.Read.{read_decimal, value_in}
use Rattle.line.specs.Words.{same_bytes}
use Rattle.arguments.specs.declared.Options.{Options}
use Rattle.arguments.specs.declared.Reading.{Reading}
use Rattle.arguments.specs.Arguments.{begins, first_number, from_first, from_dashes, from_files, from_of, options_of, is_several}
use Rattle.arguments.specs.Reading.{begun, files_read, of_read, check_read, read_each, is_open, asked}

unfoldable words : List String → List (List ℕ)
words [] = []
words (w ∷ ws) = ascii w ∷ words ws

-- What these words ask for, behind the program's name.
unfoldable replay : List String → Options
unfolding words ascii options_of from_of from_files from_dashes from_first begins first_number same_bytes read_decimal value_in are_digits digit_of value_of
replay ws = options_of (words ws)

-- Whether `--check` is there; how many files there are, or 0; the place of the list, or 0; the place of the first file, and how many
-- stand there.
abbrev asks : Bool → ℕ → ℕ → ℕ → ℕ → Options
asks check total list first files = record { check = check; total = total; list = list; first = first; files = files }

-- The same words, read one by one.
unfoldable read : List String → Reading
unfolding words ascii read_each check_read of_read files_read same_bytes read_decimal value_in are_digits digit_of value_of
read ws = read_each begun (words ws)

-- ---- files alone

no_word : replay [] ≡ asks false 0 0 1 0
unfolding replay
no_word = refl

files : (replay ("a" ∷ []) ≡ asks false 0 0 1 1)
    × (replay ("a" ∷ "b" ∷ "c" ∷ []) ≡ asks false 0 0 1 3)
unfolding replay
files = (refl, refl)

-- Any other word than the four texts is a file: one of no bytes, a minus, and those that have a letter more or fewer.
other-words : (replay ("" ∷ []) ≡ asks false 0 0 1 1)
    × (replay ("-" ∷ []) ≡ asks false 0 0 1 1)
    × (replay ("---" ∷ []) ≡ asks false 0 0 1 1)
    × (replay ("--checks" ∷ []) ≡ asks false 0 0 1 1)
    × (replay ("--chec" ∷ []) ≡ asks false 0 0 1 1)
    × (replay ("--o" ∷ "3" ∷ []) ≡ asks false 0 0 1 2)
    × (replay ("--file" ∷ "l" ∷ []) ≡ asks false 0 0 1 2)
unfolding replay
other-words = (refl, refl, refl, refl, refl, refl, refl)

-- ---- one option

check : (replay ("--check" ∷ []) ≡ asks true 0 0 2 0)
    × (replay ("--check" ∷ "a" ∷ "b" ∷ []) ≡ asks true 0 0 2 2)
unfolding replay
check = (refl, refl)

of : (replay ("--of" ∷ "12" ∷ []) ≡ asks false 12 0 3 0)
    × (replay ("--of" ∷ "12" ∷ "a" ∷ "b" ∷ []) ≡ asks false 12 0 3 2)
unfolding replay
of = (refl, refl)

list : (replay ("--files" ∷ "l" ∷ []) ≡ asks false 0 2 3 0)
    × (replay ("--files" ∷ "l" ∷ "a" ∷ []) ≡ asks false 0 2 3 1)
unfolding replay
list = (refl, refl)

-- `--` is no file, and every word behind it is one.
dashes : (replay ("--" ∷ []) ≡ asks false 0 0 2 0)
    × (replay ("--" ∷ "--check" ∷ []) ≡ asks false 0 0 2 1)
    × (replay ("--" ∷ "--" ∷ "a" ∷ []) ≡ asks false 0 0 2 2)
unfolding replay
dashes = (refl, refl, refl)

-- ---- several options

-- In their order they are options,
in_order : (replay ("--check" ∷ "--of" ∷ "12" ∷ "a" ∷ []) ≡ asks true 12 0 4 1)
    × (replay ("--of" ∷ "12" ∷ "--files" ∷ "l" ∷ []) ≡ asks false 12 4 5 0)
    × (replay ("--check" ∷ "--files" ∷ "l" ∷ "a" ∷ []) ≡ asks true 0 3 4 1)
    × (replay ("--check" ∷ "--" ∷ "a" ∷ []) ≡ asks true 0 0 3 1)
    × (replay ("--check" ∷ "--of" ∷ "12" ∷ "--files" ∷ "l" ∷ "--" ∷ "a" ∷ "b" ∷ []) ≡ asks true 12 5 7 2)
unfolding replay
in_order = (refl, refl, refl, refl, refl)

-- in another one, behind a file or a second time files.
out_of_order : (replay ("--of" ∷ "3" ∷ "--check" ∷ []) ≡ asks false 3 0 3 1)
    × (replay ("--files" ∷ "l" ∷ "--check" ∷ []) ≡ asks false 0 2 3 1)
    × (replay ("--files" ∷ "l" ∷ "--of" ∷ "3" ∷ []) ≡ asks false 0 2 3 2)
    × (replay ("a" ∷ "--check" ∷ []) ≡ asks false 0 0 1 2)
unfolding replay
out_of_order = (refl, refl, refl, refl)

twice : (replay ("--check" ∷ "--check" ∷ []) ≡ asks true 0 0 2 1)
    × (replay ("--of" ∷ "1" ∷ "--of" ∷ "2" ∷ []) ≡ asks false 1 0 3 2)
    × (replay ("--files" ∷ "l" ∷ "--files" ∷ "m" ∷ []) ≡ asks false 0 2 3 2)
unfolding replay
twice = (refl, refl, refl)

-- ---- the word behind `--of` and the one behind `--files`

-- A number has at most ten digits, leading zeros among them, and is at most 4,294,967,295;
number : (replay ("--of" ∷ "4294967295" ∷ []) ≡ asks false 4294967295 0 3 0)
    × (replay ("--of" ∷ "0000000012" ∷ []) ≡ asks false 12 0 3 0)
    × (replay ("--of" ∷ "0" ∷ []) ≡ asks false 0 0 3 0)
unfolding replay
number = (refl, refl, refl)

-- another word is passed over, and is 0.
no_number : (replay ("--of" ∷ "4294967296" ∷ "a" ∷ []) ≡ asks false 0 0 3 1)
    × (replay ("--of" ∷ "00000000012" ∷ "a" ∷ []) ≡ asks false 0 0 3 1)
    × (replay ("--of" ∷ "x" ∷ "a" ∷ []) ≡ asks false 0 0 3 1)
    × (replay ("--of" ∷ "" ∷ "a" ∷ []) ≡ asks false 0 0 3 1)
    × (replay ("--of" ∷ "-3" ∷ "a" ∷ []) ≡ asks false 0 0 3 1)
unfolding replay
no_number = (refl, refl, refl, refl, refl)

-- Whatever stands there is no option.
no-option : (replay ("--of" ∷ "--" ∷ "a" ∷ []) ≡ asks false 0 0 3 1)
    × (replay ("--of" ∷ "--files" ∷ "l" ∷ []) ≡ asks false 0 0 3 1)
    × (replay ("--files" ∷ "--" ∷ "a" ∷ []) ≡ asks false 0 2 3 1)
unfolding replay
no-option = (refl, refl, refl)

-- Where the word is missing, its place counts all the same: one more than there are words.
missing : (replay ("--of" ∷ []) ≡ asks false 0 0 3 0)
    × (replay ("--files" ∷ []) ≡ asks false 0 2 3 0)
    × (replay ("--check" ∷ "--of" ∷ "12" ∷ "--files" ∷ []) ≡ asks true 12 5 6 0)
unfolding replay
missing = (refl, refl, refl)

-- ---- word by word

-- Behind an option and behind its second word another word is needed,
more-needed : (is_open (read []) ≡ true)
    × (is_open (read ("--check" ∷ [])) ≡ true)
    × (is_open (read ("--of" ∷ [])) ≡ true)
    × (is_open (read ("--of" ∷ "12" ∷ [])) ≡ true)
    × (is_open (read ("--files" ∷ [])) ≡ true)
    × (is_open (read ("--files" ∷ "l" ∷ [])) ≡ true)
    × (is_open (read ("--check" ∷ "--of" ∷ "x" ∷ "--files" ∷ "--" ∷ [])) ≡ true)
unfolding read
more-needed = (refl, refl, refl, refl, refl, refl, refl)

-- behind `--` and behind the first file none.
none_needed : (is_open (read ("--" ∷ [])) ≡ false)
    × (is_open (read ("a" ∷ [])) ≡ false)
    × (is_open (read ("--check" ∷ "a" ∷ [])) ≡ false)
    × (is_open (read ("--of" ∷ "12" ∷ "a" ∷ [])) ≡ false)
    × (is_open (read ("--files" ∷ "l" ∷ "a" ∷ [])) ≡ false)
    × (is_open (read ("--check" ∷ "--of" ∷ "12" ∷ "--files" ∷ "l" ∷ "--" ∷ [])) ≡ false)
    × (is_open (read ("a" ∷ "--check" ∷ [])) ≡ false)
unfolding read
none_needed = (refl, refl, refl, refl, refl, refl, refl)

-- With the program's name there are nine arguments, four, and six of which the last four are not read.
one_by_one : (asked (read ("--check" ∷ "--of" ∷ "12" ∷ "--files" ∷ "l" ∷ "--" ∷ "a" ∷ "b" ∷ [])) 9 ≡ asks true 12 5 7 2)
    × (asked (read ("--of" ∷ "3" ∷ "--check" ∷ [])) 4 ≡ asks false 3 0 3 1)
    × (asked (read ("a" ∷ [])) 6 ≡ asks false 0 0 1 5)
unfolding read asked
one_by_one = (refl, refl, refl)

-- ---- several files

-- One file by itself and standard input have no summary; two files have one, and so has a list, and every check.
several : (is_several (asks false 0 0 1 0) ≡ false)
    × (is_several (asks false 0 0 1 1) ≡ false)
    × (is_several (asks false 0 0 1 2) ≡ true)
    × (is_several (asks false 0 2 3 0) ≡ true)
    × (is_several (asks false 12 2 3 1) ≡ true)
    × (is_several (asks true 0 0 2 0) ≡ true)
    × (is_several (asks true 0 0 2 1) ≡ true)
unfolding is_several
several = (refl, refl, refl, refl, refl, refl, refl)
