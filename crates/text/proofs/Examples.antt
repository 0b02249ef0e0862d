-- Texts, words and lines in plain words. Assumes nothing.
use Prim.Native.Nat.{ℕ}
use Prim.Native.String.{String}
use mathlib.Core.Bool.{true, false}
use mathlib.Core.List.{List, [], ◌∷◌, map}
use mathlib.Core.Path.{◌≡◌, refl}
use Rattle.numeral.specs.Ascii.{ascii}
use Rattle.text.specs.Text.{ended, ended_each, spaced_each, spaced, text_where, begun_before, lines_after, lines, without_return, is_blank, words_after, words, same, is, fits, begin_with}

-- texts in quotes
abbrev texts : List String → List (List ℕ)
texts ss = map ascii ss

-- ---- put together

lines_end : ended_each (texts ("a b" ∷ "" ∷ "c" ∷ [])) ≡ ascii "a b\n\nc\n"
unfolding ascii ended_each ended
lines_end = refl

words-behind-blanks : spaced_each (texts ("0010" ∷ "2000" ∷ [])) ≡ ascii " 0010 2000"
unfolding ascii spaced_each
words-behind-blanks = refl

words-parted : spaced (texts ("item" ∷ "first" ∷ "#" ∷ [])) ≡ ascii "item first #"
unfolding ascii spaced spaced_each
words-parted = refl

no-words-parted : spaced [] ≡ ascii ""
unfolding ascii spaced
no-words-parted = refl

only-where : (text_where true (ascii "s") ≡ ascii "s") × (text_where false (ascii "s") ≡ ascii "")
unfolding ascii text_where
only-where = (refl, refl)

-- ---- taken apart

-- An empty line is a line; behind the last line feed there is none, and the last line may lack it.
lines-taken : lines (ascii "bus 05\n\nint") ≡ texts ("bus 05" ∷ "" ∷ "int" ∷ [])
unfolding ascii lines lines_after begun_before
lines-taken = refl

last-line-ends : lines (ascii "int\n\n") ≡ texts ("int" ∷ "" ∷ [])
unfolding ascii lines lines_after begun_before
last-line-ends = refl

nothing-has-no-line : lines (ascii "") ≡ []
unfolding ascii lines lines_after begun_before
nothing-has-no-line = refl

-- one carriage return, at the end alone
return-dropped : map without_return (texts ("int\r" ∷ "int\r\r" ∷ "\rint" ∷ "\r" ∷ "" ∷ [])) ≡ texts ("int" ∷ "int\r" ∷ "\rint" ∷ "" ∷ "" ∷ [])
unfolding ascii without_return
return-dropped = refl

-- A carriage return inside is a byte of its word, and so is every other byte but a blank and a tab.
words-taken : words (ascii " \tbus  05\t06\r7 ") ≡ texts ("bus" ∷ "05" ∷ "06\r7" ∷ [])
unfolding ascii words words_after begun_before is_blank
words-taken = refl

-- ---- compared

same_bytes : map (is "int") (texts ("int" ∷ "Int" ∷ "in" ∷ "ints" ∷ "" ∷ [])) ≡ true ∷ false ∷ false ∷ false ∷ false ∷ []
unfolding ascii same
same_bytes = refl

-- A small x is any one byte of the answer; a capital X is itself, and an x of the answer fits an x alone.
any-byte : map (fits (ascii "0x4x")) (texts ("0F40" ∷ "014 " ∷ "0x4x" ∷ "0F50" ∷ "1F40" ∷ "0F4" ∷ "0F400" ∷ [])) ≡ true ∷ true ∷ true ∷ false ∷ false ∷ false ∷ false ∷ []
unfolding ascii fits
any-byte = refl

no-other-any : map (fits (ascii "X0")) (texts ("X0" ∷ "10" ∷ "x0" ∷ [])) ≡ true ∷ false ∷ false ∷ []
unfolding ascii fits
no-other-any = refl

-- whole words, from the first on; no word fits every answer
words-begin : map (begin_with (texts ("no" ∷ "xx" ∷ []))) (map words (texts ("no 10 not awaited" ∷ "no 10" ∷ "no 8 not" ∷ "no" ∷ "ok no 10" ∷ []))) ≡ true ∷ true ∷ false ∷ false ∷ false ∷ []
unfolding ascii words words_after begun_before is_blank begin_with fits
words-begin = refl

none-expected : map (begin_with []) (map words (texts ("ok -" ∷ "" ∷ []))) ≡ true ∷ true ∷ []
unfolding ascii words words_after begun_before is_blank begin_with
none-expected = refl
