-- What a line says: its numbers, how many words it has, each sort of line, then a whole line. The words of the description of items stand
-- in quotation marks. Assumes nothing.
use Rattle.std.specs.Prelude.{ℕ, ◌-◌, Bool, true, List, [], ◌∷◌, ◌++◌, map, ltb, leb, eqb, ℤ, length, get_or, take, drop, replicate, Option, Some, None}
use Prim.Native.String.{String}
use Rattle.unit.specs.Choice.{pick, either, both, negate}
use Rattle.numeral.specs.Digit.{digit_of, glyph}
use Rattle.numeral.specs.Read.{read_hex, read_decimal, read_signed}
use Rattle.difference.specs.Difference.{signed_of}
use Rattle.listing.specs.declared.Width.TheVariants.{Two, Eight}
use Rattle.text.specs.Text.{Text, without_return, words, is}
use Rattle.item_line.specs.Line.{Fault, Output, Call, Ask, Keep, Expected, Wanted, Line}

-- ---- words that stand where a number should

-- What a word is, or the word that is none of its form.
pub data Got (A : Type 0) : Type 0 where
  got : A → Got A
  wrong : Text → Got A

-- A number that was read from a word.
abbrev pub number_of : Text → Option ℕ → Got ℕ
number_of w (Some n) = got n
number_of w None = wrong w

-- A hexadecimal number of `least` to `most` digits, "of either case".
unfoldable pub hex : ℕ → ℕ → Text → Got ℕ
hex least most w = number_of w (read_hex least most w)

-- A decimal of at most `limit`: "A decimal may have leading zeros, up to ten digits in all".
unfoldable pub decimal : ℕ → Text → Got ℕ
decimal limit w = number_of w (read_decimal limit w)

-- "N decimal, 0 to 4,294,967,295"
abbrev pub count : Text → Got ℕ
count = decimal 4294967295

-- "decimal quanta, -2,147,483,648 to 2,147,483,647, up to ten digits with or without a `-` before them"
abbrev pub quanta_of : Text → Option ℕ → Got ℤ
quanta_of w (Some n) = got (signed_of n)
quanta_of w None = wrong w

unfoldable pub quanta : Text → Got ℤ
quanta w = quanta_of w (read_signed w)

-- "A two hexadecimal digits", from `low` to `high`
abbrev pub within : ℕ → ℕ → Text → Got ℕ → Got ℕ
within low high w (got a) = pick (both (leb low a) (leb a high)) (got a) (wrong w)
within low high w (wrong other) = wrong other

unfoldable pub address : ℕ → ℕ → Text → Got ℕ
address low high w = within low high w (hex 2 2 w)

-- `out=N`, "N decimal, 0 to 200"; "of `out=..` the whole word" is named
abbrev pub named : Text → Got ℕ → Got ℕ
named w (got n) = got n
named w (wrong part) = wrong w

unfoldable pub size : Text → Got ℕ
size w = named w (decimal 200 (drop 4 w))

-- "words of 1 to 4 digits, each hexadecimal or `x`": a small x stands for any digit.
unfoldable pub is_digit : ℕ → Bool
is_digit c = either (eqb c 0x78) (ltb (digit_of c) 16)

unfoldable pub are_digits : Text → Bool
are_digits [] = true
are_digits (c ∷ cs) = both (is_digit c) (are_digits cs)

-- "WANTED is printed in four digits with its `x` as they are", in capitals.
unfoldable pub capital : ℕ → ℕ
capital c = pick (eqb c 0x78) c (glyph (digit_of c))

-- "digits left out before the first are 0, so that `x` is `000x`"
unfoldable pub four_digits : Text → Wanted
four_digits w = replicate (4 - length w) 0x30 ++ map capital w

-- "A word that begins with `0x` is none of this form"
unfoldable pub is_wanted : Text → Bool
is_wanted w = both (leb 1 (length w)) (both (leb (length w) 4) (both (are_digits w) (negate (is "0x" (take 2 w)))))

unfoldable pub wanted : Text → Got Wanted
wanted w = pick (is_wanted w) (got (four_digits w)) (wrong w)

-- Each of some words, or "the first word, from the left, that .. is none of its form".
abbrev pub onto : {A : Type 0} → A → Got (List A) → Got (List A)
onto a (got others) = got (a ∷ others)
onto a (wrong w) = wrong w

abbrev pub before : {A : Type 0} → Got A → Got (List A) → Got (List A)
before (got a) others = onto a others
before (wrong w) others = wrong w

unfoldable pub each : {A B : Type 0} → (B → Got A) → List B → Got (List A)
each form [] = got []
each form (w ∷ ws) = before (form w) (each form ws)

-- The line that takes what was read; or the fault that names the wrong word.
abbrev pub with : {A : Type 0} → Got A → (A → Line) → Line
with (got a) line = line a
with (wrong w) line = Line.bad (Fault.bad_number w)

-- ---- how many words

-- "words missing or too many": a line that has `least` to `most` of some words
unfoldable pub counted : {A : Type 0} → ℕ → ℕ → List A → Line → Line
counted least most ws line = pick (both (leb least (length ws)) (leb (length ws) most)) line (Line.bad Fault.wrong_count)

-- A line of no further word.
abbrev pub alone : Line → List Text → Line
alone line ws = counted 0 0 ws line

-- A line of one number: "Words past those that a line can have are not looked into".
unfoldable pub one : (Text → Got ℕ) → (ℕ → Line) → List Text → Line
one form line [] = Line.bad Fault.wrong_count
one form line (w ∷ ws) = with (form w) (λ n. alone (line n) ws)

-- A line of an address, from `low` to `high`, and further words.
unfoldable pub addressed : ℕ → ℕ → (ℕ → List Text → Line) → List Text → Line
addressed low high line [] = Line.bad Fault.wrong_count
addressed low high line (w ∷ ws) = with (address low high w) (λ a. line a ws)

-- ---- the lines of the table, each by the words behind its first

-- `item NAME ..`: "NAME is one or more words"
unfoldable pub item_line : List Text → Line
item_line [] = Line.bad Fault.wrong_count
item_line (w ∷ ws) = Line.item (w ∷ ws)

-- `bus B ..`: "0 to 200 of them, two hexadecimal digits each"
unfoldable pub bytes_line : Output → List Text → Expected → Line
bytes_line output ws x = with (each (hex 2 2) ws) (λ bytes. counted 0 200 ws (Line.call (Call.bus output bytes) x))

-- `bus out=N B ..`
unfoldable pub bus_line : List Text → Expected → Line
bus_line [] x = bytes_line Output.by_frame [] x
bus_line (w ∷ ws) x =
    pick (is "out=" (take 4 w)) (with (size w) (λ n. bytes_line (Output.out_of n) ws x)) (bytes_line Output.by_frame (w ∷ ws) x)

-- `set A W ..`: "A, two hexadecimal digits 30 to 43, and 1 to 99 words of 1 to 4 hexadecimal digits"
unfoldable pub set_line : List Text → Expected → Line
set_line all x =
    addressed 0x30 0x43 (λ a ws. with (each (hex 1 4) ws) (λ ns. counted 1 99 ws (Line.call (Call.set a ns) x))) all

-- `read A W ..` and `expect A W ..`: "A two hexadecimal digits, B0 to FF, then 1 to 100h − A words"; "in `expect` and `read` the first
-- 100h − A words are" judged before their number is
unfoldable pub wanted_line : (ℕ → List Wanted → Line) → List Text → Line
wanted_line line all =
    addressed 0xB0 0xFF (λ a ws. with (each wanted (take (256 - a) ws)) (λ ps. counted 1 (256 - a) ws (line a ps))) all

-- The words between slashes: one list more than there are slashes.
abbrev pub in_first : Text → List (List Text) → List (List Text)
in_first w [] = (w ∷ []) ∷ []
in_first w (part ∷ parts) = (w ∷ part) ∷ parts

unfoldable pub parted : List Text → List (List Text)
parted [] = [] ∷ []
parted (w ∷ ws) = pick (is "/" w) ([] ∷ parted ws) (in_first w (parted ws))

-- `flight U .. / D ..`: "the up words, one `/`, the down words; 0 to 16 in each list"; "no `/` or a second one" is a wrong count
unfoldable pub flight_parts : Expected → List (List ℕ) → Line
flight_parts x [] = Line.bad Fault.wrong_count
flight_parts x (up ∷ []) = Line.bad Fault.wrong_count
flight_parts x (up ∷ down ∷ []) = counted 0 16 up (counted 0 16 down (Line.call (Call.flight up down) x))
flight_parts x (up ∷ down ∷ more ∷ others) = Line.bad Fault.wrong_count

-- "1 to 8 hexadecimal digits each"
unfoldable pub flight_line : List Text → Expected → Line
flight_line ws x = with (each (each (hex 1 8)) (parted ws)) (flight_parts x)

-- `temperature W ..`: "0 to 16 words of 1 to 8 hexadecimal digits"
unfoldable pub temperature_line : List Text → Expected → Line
temperature_line ws x = with (each (hex 1 8) ws) (λ ns. counted 0 16 ws (Line.call (Call.temperature ns) x))

-- `probe R ..`: "one or more entries, decimal milliohms 0 to 4,294,967,295"
unfoldable pub probe_line : List Text → Expected → Line
probe_line [] x = Line.bad Fault.wrong_count
probe_line (w ∷ ws) x = with (each count (w ∷ ws)) (λ ns. Line.keep (Keep.probe ns) x)

-- `degrees A B`: "1 to 8 hexadecimal digits each"
unfoldable pub degrees_line : List Text → Expected → Line
degrees_line ws x =
    with (each (hex 1 8) (take 2 ws)) (λ ns. counted 2 2 ws (Line.call (Call.degrees (get_or ns 0 0) (get_or ns 1 0)) x))

-- `record D ..`
unfoldable pub record_line : List Text → Expected → Line
record_line ws x = with (each quanta ws) (λ ds. Line.keep (Keep.differences ds) x)

-- `listing C`, `listing old C`: "1 to 8 hexadecimal digits; `old` names the two-digit form"
unfoldable pub listing_line : List Text → Expected → Line
listing_line [] x = Line.bad Fault.wrong_count
listing_line (w ∷ ws) x =
    pick (is "old" w) (one (hex 1 8) (λ c. Line.call (Call.listing Two c) x) ws)
    (one (hex 1 8) (λ c. Line.call (Call.listing Eight c) x) (w ∷ ws))

-- The lines that may end with `=>`, by their first word: how the words before it are read.
unfoldable pub table : List (String × (List Text → Expected → Line))
table =
    ("bus", bus_line)
    ∷ ("set", set_line)
    ∷ ("tick", λ ws x. one count (λ n. Line.call (Call.tick n) x) ws)
    ∷ ("at", λ ws x. one count (λ n. Line.call (Call.at n) x) ws)
    ∷ ("flight", flight_line)
    ∷ ("temperature", temperature_line)
    ∷ ("int", λ ws x. alone (Line.ask Ask.int x) ws)
    ∷ ("awaited", λ ws x. alone (Line.ask Ask.awaited x) ws)
    ∷ ("regs", λ ws x. alone (Line.ask Ask.regs x) ws)
    ∷ ("stretch", λ ws x. one count (λ n. Line.call (Call.stretch n) x) ws)
    ∷ ("frames", λ ws x. alone (Line.call Call.frames x) ws)
    ∷ ("probe", probe_line)
    ∷ ("degrees", degrees_line)
    ∷ ("record", record_line)
    ∷ ("listing", listing_line)
    ∷ ("quietest", λ ws x. one count (λ n. Line.call (Call.quietest n) x) ws)
    ∷ []

unfoldable pub read_by : List (String × (List Text → Expected → Line)) → Text → List Text → Expected → Line
read_by [] w ws x = Line.bad (Fault.unknown_word w)
read_by (row ∷ rows) w ws x = pick (is row.0 w) (row.1 ws x) (read_by rows w ws x)

-- ---- a whole line

-- "`=>` and words that are expected": the words before the first mark, and what is expected
unfoldable pub before_mark : List Text → List Text
before_mark [] = []
before_mark (w ∷ ws) = pick (is "=>" w) [] (w ∷ before_mark ws)

unfoldable pub behind_mark : List Text → Expected
behind_mark [] = Expected.unmarked
behind_mark (w ∷ ws) = pick (is "=>" w) (Expected.marked ws) (behind_mark ws)

-- "A word that is `#` and nothing else ends the line"
unfoldable pub without_comment : List Text → List Text
without_comment [] = []
without_comment (w ∷ ws) = pick (is "#" w) [] (w ∷ without_comment ws)

-- "Any line but `item`, `show`, `expect` and `read` .. may end with `=>`": a line without its comment
unfoldable pub worded : Text → List Text → Line
worded w ws =
    pick (is "show" w) (alone Line.show ws)
    (pick (is "expect" w) (wanted_line Line.expect ws)
    (pick (is "read" w) (wanted_line Line.read ws) (read_by table w (before_mark ws) (behind_mark ws))))

-- "A line with no word before that, and one whose first word starts with `#`, is passed over"; no comment "in .. `item`, whose name may
-- hold any words"
unfoldable pub words_line : List Text → Line
words_line [] = Line.silent
words_line (w ∷ ws) =
    pick (is "#" (take 1 w)) Line.silent (pick (is "item" w) (item_line ws) (worded w (without_comment ws)))

-- "A line has at most 1,000 bytes, its line feed and carriage return not counted": a line without its line feed
unfoldable pub line_of : Text → Line
line_of bytes =
    let line = without_return bytes in
    pick (ltb 1000 (length line)) (Line.bad Fault.too_long) (words_line (words line))
