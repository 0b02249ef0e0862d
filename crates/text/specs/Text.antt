-- Texts as bytes: their words and lines. What stands in quotation marks is that of the description of items. Assumes nothing.
use Rattle.std.specs.Prelude.{ℕ, Bool, true, false, List, [], ◌∷◌, ◌++◌, eqb}
use Prim.Native.String.{String}
use Rattle.unit.specs.Choice.{pick, either, both}
use Rattle.numeral.specs.Ascii.{ascii}

-- A text is its bytes; so is a word of a line.
abbrev pub Text : Type 0
Text = List ℕ

-- ---- put together

-- A line with its line feed.
unfoldable pub ended : Text → Text
ended line = line ++ (10 ∷ [])

-- Lines one after the other, each with its line feed.
unfoldable pub ended_each : List Text → Text
ended_each [] = []
ended_each (line ∷ lines) = ended line ++ ended_each lines

-- Texts one after the other, each behind a blank.
unfoldable pub spaced_each : List Text → Text
spaced_each [] = []
spaced_each (t ∷ ts) = ascii " " ++ t ++ spaced_each ts

-- "words, parted by one blank"
unfoldable pub spaced : List Text → Text
spaced [] = []
spaced (t ∷ ts) = t ++ spaced_each ts

-- A text where a test holds, else nothing.
unfoldable pub text_where : Bool → Text → Text
text_where holds t = pick holds t []

-- ---- taken apart

-- What has begun and is not empty, before what follows it.
unfoldable pub begun_before : Text → List Text → List Text
begun_before [] others = others
begun_before (c ∷ cs) others = (c ∷ cs) ∷ others

-- "A line ends with a line feed; the last one may lack it": the lines of a text, after the bytes of one that has begun.
unfoldable pub lines_after : Text → Text → List Text
lines_after begun [] = begun_before begun []
lines_after begun (c ∷ cs) = pick (eqb c 10) (begun ∷ lines_after [] cs) (lines_after (begun ++ (c ∷ [])) cs)

unfoldable pub lines : Text → List Text
lines text = lines_after [] text

-- "one carriage return at a line's end is dropped"
unfoldable pub without_return : Text → Text
without_return [] = []
without_return (c ∷ []) = pick (eqb c 13) [] (c ∷ [])
without_return (c ∷ d ∷ cs) = c ∷ without_return (d ∷ cs)

-- A blank or a tab.
unfoldable pub is_blank : ℕ → Bool
is_blank c = either (eqb c 32) (eqb c 9)

-- "It is words parted by blanks or tabs, one or more, and such before the first word and after the last count for nothing": the words of
-- a line, after the bytes of one that has begun.
unfoldable pub words_after : Text → Text → List Text
words_after begun [] = begun_before begun []
words_after begun (c ∷ cs) = pick (is_blank c) (begun_before begun (words_after [] cs)) (words_after (begun ++ (c ∷ [])) cs)

unfoldable pub words : Text → List Text
words line = words_after [] line

-- ---- compared

-- Whether two texts are the same, byte for byte.
unfoldable pub same : Text → Text → Bool
same [] [] = true
same [] (d ∷ ds) = false
same (c ∷ cs) [] = false
same (c ∷ cs) (d ∷ ds) = both (eqb c d) (same cs ds)

-- Whether a word is the one given.
abbrev pub is : String → Text → Bool
is word w = same w (ascii word)

-- "each word by a whole word of the same length, in which a small `x` stands for any one byte": whether the second word is as the
-- first wants it.
unfoldable pub fits : Text → Text → Bool
fits [] [] = true
fits [] (d ∷ ds) = false
fits (c ∷ cs) [] = false
fits (c ∷ cs) (d ∷ ds) = both (either (eqb c 0x78) (eqb c d)) (fits cs ds)

-- Whether the second words begin with the first, which are wanted.
unfoldable pub begin_with : List Text → List Text → Bool
begin_with [] [] = true
begin_with [] (w ∷ ws) = true
begin_with (x ∷ xs) [] = false
begin_with (x ∷ xs) (w ∷ ws) = both (fits x w) (begin_with xs ws)
