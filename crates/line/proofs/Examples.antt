-- Lines and what they say. Assumes nothing.
use Prim.Native.Nat.{ℕ, zero, suc, ◌-◌, ◌≤◌}
use mathlib.Core.Path.{◌≡◌, refl}
use mathlib.Core.Bool.{true, false}
use mathlib.Core.List.{List, [], ◌∷◌, ◌++◌, map}
use Rattle.numeral.specs.Ascii.{ascii}
use Rattle.numeral.specs.Place.{joined}
use Rattle.numeral.specs.Digit.{digit_of, are_digits, value_of}
use Rattle.numeral.specs.Read.{value_in, read_hex, read_decimal, read_signed, negated}
use Rattle.line.specs.declared.Content.{Content}
use Rattle.line.specs.declared.Content.TheVariants.{Nothing, TooLong, UnknownWord, BadNumber, WrongCount, Item, Bus, BusOut, Tick, Flight, Temperature, Int, Awaited, Regs, Expect, Show, Set, At, Stretch, Frames, Probe, Degrees, Record, Listing, Quietest}
use Rattle.line.specs.declared.Keyword.{Keyword}
use Rattle.line.specs.declared.Tally.TheVariants.{All}
use Rattle.line.specs.Words.{words, words_after, ended, is_blank, same_bytes}
use Rattle.line.specs.Numbers.{is_slash, list_word, tallied}
use Rattle.line.specs.Decimals.{decimal_of, listed}
use Rattle.line.specs.Mark.{takes_mark, is_mark, before_mark, behind_mark, behind_place}
use Rattle.line.specs.Spaced.{spaced, blanked}
use Rattle.line.specs.Line.{Bounded, word_form, pair_form, line_reading, line_expected, words_expected, content_length, words_reading, keyword_of, keyword_reading, item_call, bus_reading, is_out, out_reading, bytes_reading, bytes_call, numbered, decimal_with, decimal_call, alone, flight_reading, flight_call, temperature_reading, temperature_call, expect_reading, expect_from, expect_words, expect_call, set_reading, set_from, set_words, set_call, probe_reading, probe_call, degrees_reading, degrees_call, record_reading, record_call, hex_with, hex_call, listing_call, later_reading}
use Rattle.std.specs.Prelude.{Some}

-- What is said by a line whose numbers find no place.
said : List ℕ → Content
unfolding line_reading content_length words_reading words words_after ended is_blank same_bytes keyword_of keyword_reading item_call bus_reading is_out out_reading bytes_reading bytes_call numbered decimal_with decimal_call alone flight_reading flight_call temperature_reading temperature_call expect_reading expect_from expect_words expect_call set_reading set_from set_words set_call probe_reading probe_call degrees_reading degrees_call record_reading record_call hex_with hex_call listing_call later_reading takes_mark is_mark before_mark listed decimal_of read_signed negated is_slash list_word tallied read_hex read_decimal value_in value_of are_digits digit_of
said cs = (line_reading [] cs).content

-- The numbers that a line leaves in a buffer of four zeros.
left : List ℕ → List ℕ
unfolding said
left cs = (line_reading (0 ∷ 0 ∷ 0 ∷ 0 ∷ []) cs).numbers

-- The words that a line expects of its answer, in a list of one, or none.
expected : List ℕ → List (List (List ℕ))
unfolding line_expected content_length words_expected words words_after ended is_blank same_bytes keyword_of takes_mark is_mark behind_mark
expected cs = line_expected cs

-- A text so many times.
unfoldable times : ℕ → List ℕ → List ℕ
times zero t = []
times (suc n) t = t ++ times n t

-- `int x`
word-past : said (ascii "int x") ≡ WrongCount
unfolding said ascii
word-past = refl

-- `tick 5 x`
number-and-word-past : said (ascii "tick 5 x") ≡ WrongCount
unfolding said ascii
number-and-word-past = refl

-- `tick -1`
no-decimal : said (ascii "tick -1") ≡ BadNumber
unfolding said ascii
no-decimal = refl

-- `BUS 05`
capitals : said (ascii "BUS 05") ≡ UnknownWord
unfolding said ascii
capitals = refl

-- `flight 1 / 2`
flight : said (ascii "flight 1 / 2") ≡ Flight 1 1
unfolding said ascii
flight = refl

-- `flight 1 2`
no_slash : said (ascii "flight 1 2") ≡ WrongCount
unfolding said ascii
no_slash = refl

-- `flight 1 / 2 / 3`
second-slash : said (ascii "flight 1 / 2 / 3") ≡ WrongCount
unfolding said ascii
second-slash = refl

-- `expect AF 0`
low-address : said (ascii "expect AF 0") ≡ BadNumber
unfolding said ascii
low-address = refl

-- `expect FF 0 x`
one-word-past : said (ascii "expect FF 0 x") ≡ WrongCount
unfolding said ascii
one-word-past = refl

-- `bus out=07 B0`
bus-out : said (ascii "bus out=07 B0") ≡ BusOut 7 1
unfolding said ascii
bus-out = refl

-- `bus 5`
one-digit : said (ascii "bus 5") ≡ BadNumber
unfolding said ascii
one-digit = refl

-- ` # tick x`
passed_over : said (ascii " # tick x") ≡ Nothing
unfolding said ascii
passed_over = refl

-- `tick 2`, and a carriage return
return-dropped : said (116 ∷ 105 ∷ 99 ∷ 107 ∷ 32 ∷ 50 ∷ 13 ∷ []) ≡ Tick 2
unfolding said ascii
return-dropped = refl

-- `tick 5 => x 6`
tick-marked : said (ascii "tick 5 => x 6") ≡ Tick 5
unfolding said ascii
tick-marked = refl

-- `=> 5`
mark-first : said (ascii "=> 5") ≡ UnknownWord
unfolding said ascii
mark-first = refl

-- `show =>`
show-unmarked : said (ascii "show =>") ≡ WrongCount
unfolding said ascii
show-unmarked = refl

-- `set 38 1 FFFF`
set-of-two : said (ascii "set 38 1 FFFF") ≡ Set 56 2
unfolding said ascii
set-of-two = refl

-- `set 2F 0`
set_below : said (ascii "set 2F 0") ≡ BadNumber
unfolding said ascii
set_below = refl

-- `at 100`
at-moment : said (ascii "at 100") ≡ At 100
unfolding said ascii
at-moment = refl

-- `degrees 1 2 x`
three-for-degrees : said (ascii "degrees 1 2 x") ≡ WrongCount
unfolding said ascii
three-for-degrees = refl

-- `degrees 1 F`
two-for-degrees : said (ascii "degrees 1 F") ≡ Degrees
unfolding said ascii
two-for-degrees = refl

-- `record`
record-none : said (ascii "record") ≡ Record 0
unfolding said ascii
record-none = refl

-- `record -1 2`
record-two : said (ascii "record -1 2") ≡ Record 2
unfolding said ascii
record-two = refl

-- `record +1`
record-plus : said (ascii "record +1") ≡ BadNumber
unfolding said ascii
record-plus = refl

-- `listing old F4`
listing-old : said (ascii "listing old F4") ≡ Listing true 244
unfolding said ascii
listing-old = refl

-- `listing old`
listing-old-alone : said (ascii "listing old") ≡ WrongCount
unfolding said ascii
listing-old-alone = refl

-- `quietest 3`
quietest-three : said (ascii "quietest 3") ≡ Quietest 3
unfolding said ascii
quietest-three = refl

-- ---- the words of a line

-- Blanks and tabs part words, and count for nothing before the first and after the last.
blanks : (words (ascii "\t a\t \tb  ") ≡ ascii "a" ∷ ascii "b" ∷ [])
    × (words (ascii " \t") ≡ [])
    × (words [] ≡ [])
unfolding words words_after ended is_blank ascii
blanks = (refl, refl, refl)

-- Words are the same where they have the same bytes, and as many.
same : (same_bytes (ascii "at") (ascii "at") ≡ true)
    × (same_bytes (ascii "at") (ascii "as") ≡ false)
    × (same_bytes (ascii "at") (ascii "a") ≡ false)
    × (same_bytes (ascii "a") (ascii "at") ≡ false)
unfolding same_bytes ascii
same = (refl, refl, refl, refl)

-- Words as text, parted by one blank.
one-blank : (joined (spaced (ascii "tick" ∷ ascii "5" ∷ ascii "x" ∷ [])) ≡ ascii "tick 5 x")
    × (joined (spaced []) ≡ [])
unfolding joined spaced blanked ascii
one-blank = (refl, refl)

-- A line has at most 1,000 bytes: `tick 5` and 994 blanks, and 995.
longest-line : (said (ascii "tick 5" ++ times 994 (ascii " ")) ≡ Tick 5)
    × (said (ascii "tick 5" ++ times 995 (ascii " ")) ≡ TooLong)
unfolding said times ascii
longest-line = (refl, refl)

-- One carriage return at a line's end is not counted, not behind 1,000 bytes either; a second one belongs to the last word.
one-return : (said (ascii "tick 5" ++ (times 994 (ascii " ") ++ ascii "\r")) ≡ Tick 5)
    × (said (ascii "tick 5" ++ (times 995 (ascii " ") ++ ascii "\r")) ≡ TooLong)
    × (said (ascii "tick 5\r\r") ≡ BadNumber)
    × (said (ascii "\r") ≡ Nothing)
    × (said [] ≡ Nothing)
unfolding said times ascii
one-return = (refl, refl, refl, refl, refl)

-- ---- the mark

-- `item`, `expect` and `show` take no mark.
unmarked : map takes_mark (Keyword.Item ∷ Keyword.Expect ∷ Keyword.Show ∷ []) ≡ false ∷ false ∷ false ∷ []
unfolding takes_mark
unmarked = refl

-- Every other line does, and one of an unknown word too.
marked : map takes_mark
    (Keyword.Bus ∷ Keyword.Tick ∷ Keyword.Flight ∷ Keyword.Temperature ∷ Keyword.Int ∷ Keyword.Awaited ∷ Keyword.Regs ∷ Keyword.Set ∷ Keyword.At
    ∷ Keyword.Stretch ∷ Keyword.Frames ∷ Keyword.Probe ∷ Keyword.Degrees ∷ Keyword.Record ∷ Keyword.Listing ∷ Keyword.Quietest ∷ Keyword.Unknown ∷ [])
    ≡ true ∷ true ∷ true ∷ true ∷ true ∷ true ∷ true ∷ true ∷ true ∷ true ∷ true ∷ true ∷ true ∷ true ∷ true ∷ true ∷ true ∷ []
unfolding takes_mark
marked = refl

-- What stands behind the first mark is expected: two words, a second mark, no word, and no mark.
expected-words : (expected (ascii "tick 5 => x 6") ≡ (ascii "x" ∷ ascii "6" ∷ []) ∷ [])
    × (expected (ascii "tock => x => 6") ≡ (ascii "x" ∷ ascii "=>" ∷ ascii "6" ∷ []) ∷ [])
    × (expected (ascii "int =>") ≡ [] ∷ [])
    × (expected (ascii "int => x\r") ≡ (ascii "x" ∷ []) ∷ [])
    × (expected (ascii "int") ≡ [])
unfolding expected ascii
expected-words = (refl, refl, refl, refl, refl)

-- `# => x`, `show => x`, `item => x`, `expect => x` and an empty line expect nothing.
nothing-expected : (expected (ascii "# => x") ≡ [])
    × (expected (ascii "show => x") ≡ [])
    × (expected (ascii "item => x") ≡ [])
    × (expected (ascii "expect => x") ≡ [])
    × (expected [] ≡ [])
unfolding expected ascii
nothing-expected = (refl, refl, refl, refl, refl)

-- Nor does a line of more than 1,000 bytes.
too-long-expects : (expected (ascii "int =>" ++ times 994 (ascii " ")) ≡ [] ∷ [])
    × (expected (ascii "int =>" ++ times 995 (ascii " ")) ≡ [])
unfolding expected times ascii
too-long-expects = (refl, refl)

-- The place behind a mark that ends at 5, and 0 where there is none.
place-behind : (behind_place 3 5 ≡ 5)
    × (behind_place 5 5 ≡ 0)
    × (behind_place 5 3 ≡ 0)
unfolding behind_place
place-behind = (refl, refl, refl)

-- ---- items, and lines of one word

-- `item`, `item pump`, `item pump 3 => x`
items : (said (ascii "item") ≡ WrongCount)
    × (said (ascii "item pump") ≡ Item)
    × (said (ascii "item pump 3 => x") ≡ Item)
unfolding said ascii
items = (refl, refl, refl)

-- `int`, `awaited`, `regs`, `show` and `frames`
words-alone : (said (ascii "int") ≡ Int)
    × (said (ascii "awaited") ≡ Awaited)
    × (said (ascii "regs") ≡ Regs)
    × (said (ascii "show") ≡ Show)
    × (said (ascii "frames") ≡ Frames)
unfolding said ascii
words-alone = (refl, refl, refl, refl, refl)

-- A word past them
words-past : (said (ascii "awaited x") ≡ WrongCount)
    × (said (ascii "regs x") ≡ WrongCount)
    × (said (ascii "show x") ≡ WrongCount)
    × (said (ascii "frames x") ≡ WrongCount)
unfolding said ascii
words-past = (refl, refl, refl, refl)

-- `ints`, `in`, `Int`, `old` and `/` are no first words; `#` stands at the first one's start.
unknown : (said (ascii "ints") ≡ UnknownWord)
    × (said (ascii "in") ≡ UnknownWord)
    × (said (ascii "Int") ≡ UnknownWord)
    × (said (ascii "old 5") ≡ UnknownWord)
    × (said (ascii "/") ≡ UnknownWord)
    × (said (ascii "#int") ≡ Nothing)
    × (said (ascii "int #") ≡ WrongCount)
unfolding said ascii
unknown = (refl, refl, refl, refl, refl, refl, refl)

-- ---- decimals

-- `tick`, `at`, `stretch` and `quietest` have one decimal.
counts : (said (ascii "tick 0") ≡ Tick 0)
    × (said (ascii "at 12") ≡ At 12)
    × (said (ascii "stretch 7") ≡ Stretch 7)
    × (said (ascii "quietest 007") ≡ Quietest 7)
unfolding said ascii
counts = (refl, refl, refl, refl)

-- None, one that is none, and a word past it
no-counts : (said (ascii "tick") ≡ WrongCount)
    × (said (ascii "at") ≡ WrongCount)
    × (said (ascii "stretch") ≡ WrongCount)
    × (said (ascii "quietest") ≡ WrongCount)
    × (said (ascii "at x") ≡ BadNumber)
    × (said (ascii "stretch A") ≡ BadNumber)
    × (said (ascii "quietest /") ≡ BadNumber)
    × (said (ascii "at 1 x") ≡ WrongCount)
    × (said (ascii "stretch 1 2") ≡ WrongCount)
    × (said (ascii "quietest x 2") ≡ BadNumber)
unfolding said ascii
no-counts = (refl, refl, refl, refl, refl, refl, refl, refl, refl, refl)

-- 4,294,967,295 is the largest, and ten digits are the most.
largest-count : (said (ascii "tick 4294967295") ≡ Tick 4294967295)
    × (said (ascii "tick 4294967296") ≡ BadNumber)
    × (said (ascii "tick 0000000005") ≡ Tick 5)
    × (said (ascii "tick 00000000005") ≡ BadNumber)
unfolding said ascii
largest-count = (refl, refl, refl, refl)

-- `probe` has one or more of these, every word judged before their number is.
probes : (said (ascii "probe") ≡ WrongCount)
    × (said (ascii "probe 1") ≡ Probe 1)
    × (said (ascii "probe 4294967295 0") ≡ Probe 2)
    × (said (ascii "probe 1 4294967296") ≡ BadNumber)
    × (said (ascii "probe -1") ≡ BadNumber)
    × (said (ascii "probe x") ≡ BadNumber)
    × (said (ascii "probe 1 /") ≡ BadNumber)
unfolding said ascii
probes = (refl, refl, refl, refl, refl, refl, refl)

-- `record` has -2,147,483,648 to 2,147,483,647, or none.
records : (said (ascii "record -2147483648 2147483647 0") ≡ Record 3)
    × (said (ascii "record -2147483649") ≡ BadNumber)
    × (said (ascii "record 2147483648") ≡ BadNumber)
    × (said (ascii "record 1 -") ≡ BadNumber)
unfolding said ascii
records = (refl, refl, refl, refl)

-- A list of three decimals has no slashes.
decimals-counted : (listed false 0 [] (ascii "7" ∷ ascii "8" ∷ ascii "9" ∷ [])).tally ≡ All 3 0 0
unfolding listed decimal_of read_decimal value_in value_of are_digits digit_of ascii
decimals-counted = refl

-- ---- bytes

-- `bus`, and bytes of two digits each, of either case
bytes : (said (ascii "bus") ≡ Bus 0)
    × (said (ascii "bus 0a FF") ≡ Bus 2)
    × (said (ascii "bus 0a F") ≡ BadNumber)
    × (said (ascii "bus 0a 0FF") ≡ BadNumber)
    × (said (ascii "bus 0G") ≡ BadNumber)
    × (said (ascii "bus /") ≡ BadNumber)
unfolding said ascii
bytes = (refl, refl, refl, refl, refl, refl)

-- 200 bytes, 201, and 201 and a word that is none.
most_bytes : (said (ascii "bus" ++ times 200 (ascii " 05")) ≡ Bus 200)
    × (said (ascii "bus" ++ times 201 (ascii " 05")) ≡ WrongCount)
    × (said (ascii "bus" ++ (times 201 (ascii " 05") ++ ascii " x")) ≡ BadNumber)
unfolding said times ascii
most_bytes = (refl, refl, refl)

-- `out=` and the size of the output buffer, 0 to 200, stand before the bytes.
output : (said (ascii "bus out=0") ≡ BusOut 0 0)
    × (said (ascii "bus out=200 05 06") ≡ BusOut 200 2)
    × (said (ascii "bus out=201") ≡ BadNumber)
    × (said (ascii "bus out=") ≡ BadNumber)
    × (said (ascii "bus out=A") ≡ BadNumber)
    × (said (ascii "bus out 05") ≡ BadNumber)
    × (said (ascii "bus 05 out=7") ≡ BadNumber)
    × (said (ascii "bus out=7 /") ≡ BadNumber)
unfolding said ascii
output = (refl, refl, refl, refl, refl, refl, refl, refl)

-- With 200 bytes, and 201.
output-and-bytes : (said (ascii "bus out=1" ++ times 200 (ascii " 05")) ≡ BusOut 1 200)
    × (said (ascii "bus out=1" ++ times 201 (ascii " 05")) ≡ WrongCount)
unfolding said times ascii
output-and-bytes = (refl, refl)

-- `out=` begins a word of an output buffer's size, and `out` does not.
output-words : (is_out (ascii "out=") ≡ true)
    × (is_out (ascii "out=5") ≡ true)
    × (is_out (ascii "out") ≡ false)
    × (is_out (ascii "ouT=5") ≡ false)
    × (is_out [] ≡ false)
unfolding is_out same_bytes ascii
output-words = (refl, refl, refl, refl, refl)

-- ---- words of results

-- The words before the slash go up and those behind it down.
flights : (said (ascii "flight /") ≡ Flight 0 0)
    × (said (ascii "flight 1 2 3 /") ≡ Flight 3 0)
    × (said (ascii "flight / 1 2") ≡ Flight 0 2)
    × (said (ascii "flight 1 2 / 3") ≡ Flight 2 1)
    × (said (ascii "flight") ≡ WrongCount)
    × (said (ascii "flight / /") ≡ WrongCount)
    × (said (ascii "flight 1 / x") ≡ BadNumber)
    × (said (ascii "flight 1 /2") ≡ BadNumber)
unfolding said ascii
flights = (refl, refl, refl, refl, refl, refl, refl, refl)

-- Eight digits are a word and nine are none.
digits-of-results : (said (ascii "flight FFFFFFFF / 00000000") ≡ Flight 1 1)
    × (said (ascii "flight / 100000000") ≡ BadNumber)
    × (said (ascii "temperature FFFFFFFF 0") ≡ Temperature 2)
    × (said (ascii "temperature 000000000") ≡ BadNumber)
unfolding said ascii
digits-of-results = (refl, refl, refl, refl)

-- 16 words up, and 17.
most-up : (said (ascii "flight" ++ (times 16 (ascii " 5") ++ ascii " / 6")) ≡ Flight 16 1)
    × (said (ascii "flight" ++ (times 17 (ascii " 5") ++ ascii " / 6")) ≡ WrongCount)
unfolding said times ascii
most-up = (refl, refl)

-- 16 words down, and 17.
most-down : (said (ascii "flight 5 /" ++ times 16 (ascii " 6")) ≡ Flight 1 16)
    × (said (ascii "flight 5 /" ++ times 17 (ascii " 6")) ≡ WrongCount)
    × (said (ascii "flight 5 /" ++ (times 17 (ascii " 6") ++ ascii " x")) ≡ BadNumber)
unfolding said times ascii
most-down = (refl, refl, refl)

-- `temperature` has words and no slash.
temperatures : (said (ascii "temperature") ≡ Temperature 0)
    × (said (ascii "temperature 1") ≡ Temperature 1)
    × (said (ascii "temperature 1 / 2") ≡ BadNumber)
    × (said (ascii "temperature x") ≡ BadNumber)
unfolding said ascii
temperatures = (refl, refl, refl, refl)

-- 16 words, 17, and 17 and a word that is none.
most-temperatures : (said (ascii "temperature" ++ times 16 (ascii " 5")) ≡ Temperature 16)
    × (said (ascii "temperature" ++ times 17 (ascii " 5")) ≡ WrongCount)
    × (said (ascii "temperature" ++ (times 17 (ascii " 5") ++ ascii " x")) ≡ BadNumber)
unfolding said times ascii
most-temperatures = (refl, refl, refl)

-- Of `1 / 2 / 3` three numbers and two slashes are counted, with one number before the first slash.
first-slash : (tallied (word_form true) 0 0 0 [] (ascii "1" ∷ ascii "/" ∷ ascii "2" ∷ ascii "/" ∷ ascii "3" ∷ [])).tally ≡ All 3 2 1
unfolding tallied list_word is_slash same_bytes read_hex value_in value_of are_digits digit_of ascii
first-slash = refl

-- Of `1 2 x y` four are counted where two are looked into.
words-past-two : (tallied pair_form 0 0 0 [] (ascii "1" ∷ ascii "2" ∷ ascii "x" ∷ ascii "y" ∷ [])).tally ≡ All 4 0 0
unfolding tallied list_word is_slash same_bytes read_hex value_in value_of are_digits digit_of ascii
words-past-two = refl

-- `degrees` has two words of at most eight digits.
degrees-words : (said (ascii "degrees") ≡ WrongCount)
    × (said (ascii "degrees 1") ≡ WrongCount)
    × (said (ascii "degrees x") ≡ BadNumber)
    × (said (ascii "degrees 1 x") ≡ BadNumber)
    × (said (ascii "degrees FFFFFFFF 00000000") ≡ Degrees)
    × (said (ascii "degrees 1 000000002") ≡ BadNumber)
    × (said (ascii "degrees 1 /") ≡ BadNumber)
    × (said (ascii "degrees 1 2 /") ≡ WrongCount)
    × (said (ascii "degrees 1 2 3 4") ≡ WrongCount)
unfolding said ascii
degrees-words = (refl, refl, refl, refl, refl, refl, refl, refl, refl)

-- `listing` has one number of at most eight digits, with or without `old` before it.
listings : (said (ascii "listing F4") ≡ Listing false 244)
    × (said (ascii "listing FFFFFFFF") ≡ Listing false 4294967295)
    × (said (ascii "listing 000000001") ≡ BadNumber)
    × (said (ascii "listing") ≡ WrongCount)
    × (said (ascii "listing x") ≡ BadNumber)
    × (said (ascii "listing 1 old") ≡ WrongCount)
    × (said (ascii "listing old x") ≡ BadNumber)
    × (said (ascii "listing old 1 2") ≡ WrongCount)
    × (said (ascii "listing Old 1") ≡ BadNumber)
    × (said (ascii "listing old old") ≡ BadNumber)
unfolding said ascii
listings = (refl, refl, refl, refl, refl, refl, refl, refl, refl, refl)

-- ---- words of registers

-- `set` has an address of two digits, 30h to 43h.
set-addresses : (said (ascii "set") ≡ WrongCount)
    × (said (ascii "set 30 0") ≡ Set 48 1)
    × (said (ascii "set 43 0") ≡ Set 67 1)
    × (said (ascii "set 44 0") ≡ BadNumber)
    × (said (ascii "set 030 0") ≡ BadNumber)
    × (said (ascii "set 3 0") ≡ BadNumber)
    × (said (ascii "set x") ≡ BadNumber)
unfolding said ascii
set-addresses = (refl, refl, refl, refl, refl, refl, refl)

-- Behind it stand words of at most four digits and no slash.
set_words_lem : (said (ascii "set 30") ≡ WrongCount)
    × (said (ascii "set 30 FFFF") ≡ Set 48 1)
    × (said (ascii "set 30 0FFFF") ≡ BadNumber)
    × (said (ascii "set 30 1 / 2") ≡ BadNumber)
    × (said (ascii "set 30 x") ≡ BadNumber)
unfolding said ascii
set_words_lem = (refl, refl, refl, refl, refl)

-- 99 words, 100, and 100 and a word that is none.
most-set : (said (ascii "set 30" ++ times 99 (ascii " 5")) ≡ Set 48 99)
    × (said (ascii "set 30" ++ times 100 (ascii " 5")) ≡ WrongCount)
    × (said (ascii "set 30" ++ (times 100 (ascii " 5") ++ ascii " x")) ≡ BadNumber)
unfolding said times ascii
most-set = (refl, refl, refl)

-- `expect` has an address of two digits, B0h to FFh.
expect-addresses : (said (ascii "expect") ≡ WrongCount)
    × (said (ascii "expect B0 0") ≡ Expect 176 1)
    × (said (ascii "expect ff 0") ≡ Expect 255 1)
    × (said (ascii "expect 0B0 0") ≡ BadNumber)
    × (said (ascii "expect B 0") ≡ BadNumber)
    × (said (ascii "expect x") ≡ BadNumber)
unfolding said ascii
expect-addresses = (refl, refl, refl, refl, refl, refl)

-- Behind it stand words of at most four digits and no slash, as many as there are registers.
expect-words : (said (ascii "expect FF") ≡ WrongCount)
    × (said (ascii "expect FF FFFF") ≡ Expect 255 1)
    × (said (ascii "expect FF 0FFFF") ≡ BadNumber)
    × (said (ascii "expect FF x") ≡ BadNumber)
    × (said (ascii "expect FE 1 /") ≡ BadNumber)
    × (said (ascii "expect FE 1 2") ≡ Expect 254 2)
    × (said (ascii "expect FE 1 2 x") ≡ WrongCount)
    × (said (ascii "expect FE 1 x") ≡ BadNumber)
    × (said (ascii "expect FF => 1") ≡ BadNumber)
unfolding said ascii
expect-words = (refl, refl, refl, refl, refl, refl, refl, refl, refl)

-- All 80 registers, and 81.
most-expected : (said (ascii "expect B0" ++ times 80 (ascii " 5")) ≡ Expect 176 80)
    × (said (ascii "expect B0" ++ times 81 (ascii " 5")) ≡ WrongCount)
unfolding said times ascii
most-expected = (refl, refl)

-- 100h is no address of a register.
no_register : (expect_from (Some 256) [] (ascii "1" ∷ [])).content ≡ BadNumber
unfolding expect_from ascii
no_register = refl

-- ---- the numbers that a line leaves

-- They stand from the first place on.
numbers-left : (left (ascii "bus 0A FF") ≡ 10 ∷ 255 ∷ 0 ∷ 0 ∷ [])
    × (left (ascii "bus out=9 0A") ≡ 10 ∷ 0 ∷ 0 ∷ 0 ∷ [])
    × (left (ascii "flight 1 2 / 3") ≡ 1 ∷ 2 ∷ 3 ∷ 0 ∷ [])
    × (left (ascii "flight / 1 2") ≡ 1 ∷ 2 ∷ 0 ∷ 0 ∷ [])
    × (left (ascii "temperature 10 FFFFFFFF") ≡ 16 ∷ 4294967295 ∷ 0 ∷ 0 ∷ [])
    × (left (ascii "degrees 7 8 9") ≡ 7 ∷ 8 ∷ 0 ∷ 0 ∷ [])
unfolding left ascii
numbers-left = (refl, refl, refl, refl, refl, refl)

-- The address is none of them.
register-words-left : (left (ascii "set 30 1 FFFF") ≡ 1 ∷ 65535 ∷ 0 ∷ 0 ∷ [])
    × (left (ascii "expect FE 1 2 3") ≡ 1 ∷ 2 ∷ 0 ∷ 0 ∷ [])
unfolding left ascii
register-words-left = (refl, refl)

-- `probe 100 200`, and `record -1 2` as words of 32 bits
decimals-left : (left (ascii "probe 100 200") ≡ 100 ∷ 200 ∷ 0 ∷ 0 ∷ [])
    × (left (ascii "record -1 2") ≡ 4294967295 ∷ 2 ∷ 0 ∷ 0 ∷ [])
unfolding left ascii
decimals-left = (refl, refl)

-- `tick 5`, `listing 5`, `bus x 05` and a line that is passed over leave none; those before a word that is wrong stand.
none_left : (left (ascii "tick 5") ≡ 0 ∷ 0 ∷ 0 ∷ 0 ∷ [])
    × (left (ascii "listing 5") ≡ 0 ∷ 0 ∷ 0 ∷ 0 ∷ [])
    × (left (ascii "bus x 05") ≡ 0 ∷ 0 ∷ 0 ∷ 0 ∷ [])
    × (left (ascii "# bus 05") ≡ 0 ∷ 0 ∷ 0 ∷ 0 ∷ [])
    × (left (ascii "bus 05 x") ≡ 5 ∷ 0 ∷ 0 ∷ 0 ∷ [])
    × (left (ascii "tick 5 => 7") ≡ 0 ∷ 0 ∷ 0 ∷ 0 ∷ [])
unfolding left ascii
none_left = (refl, refl, refl, refl, refl, refl)

-- ---- bounds

-- 200 bytes, and an output buffer of 200
bus-bound : (b n : ℕ) → (Bounded (Bus n) → n ≤ 200) × (Bounded (BusOut b n) → (b ≤ 200) × (n ≤ 200))
bus-bound = λ b n. (λ h. h, λ h. h)

-- 16 words up, 16 down, and 16 of a temperature
result-bounds : (u d : ℕ) → (Bounded (Flight u d) → (u ≤ 16) × (d ≤ 16)) × (Bounded (Temperature u) → u ≤ 16)
result-bounds = λ u d. (λ h. h, λ h. h)

-- Registers B0h to FFh and words for those that are left; registers 30h to 43h and 99 words
register-bounds : (a n : ℕ)
    → (Bounded (Expect a n) → (176 ≤ a) × (a ≤ 255) × (1 ≤ n) × (n ≤ 256 - a))
    × (Bounded (Set a n) → (48 ≤ a) × (a ≤ 67) × (1 ≤ n) × (n ≤ 99))
register-bounds = λ a n. (λ h. h, λ h. h)

-- One decimal or more
probe-bound : (n : ℕ) → Bounded (Probe n) → 1 ≤ n
probe-bound = λ n h. h
