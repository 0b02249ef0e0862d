-- What lines say, in plain words and numbers: each row has a line and what it says. Assumes nothing.
use Prim.Native.Nat.{ℕ}
use Prim.Native.String.{String}
use mathlib.Core.List.{List, [], ◌∷◌, ◌++◌, map}
use mathlib.Core.Path.{◌≡◌, refl}
use lib.IntN.{pos, negsuc}
use lib.ListN.{replicate}
use Rattle.listing.specs.declared.Width.TheVariants.{Two, Eight}
use Rattle.numeral.specs.Ascii.{ascii}
use Rattle.numeral.specs.Digit.{are_digits as numeral_are_digits, digit_of, value_of, glyph}
use Rattle.numeral.specs.Read.{read_hex, value_in, read_decimal, read_signed, negated}
use Rattle.difference.specs.Difference.{signed_of}
use Rattle.text.specs.Text.{Text, without_return, same, words, words_after, begun_before, is_blank}
use Rattle.item_line.specs.Reading.{line_of, words_line, item_line, worded, counted, wanted_line, addressed, address, hex, each, wanted, is_wanted, are_digits, is_digit, four_digits, capital, read_by, table, bus_line, bytes_line, size, decimal, set_line, one, flight_line, parted, flight_parts, temperature_line, probe_line, degrees_line, record_line, quanta, listing_line, before_mark, behind_mark, without_comment}
use Rattle.item_line.specs.Line.{Fault, Output, Call, Ask, Keep, unmarked, marked, Line}

-- a line that is a call, without and with words that are expected
abbrev calls : Call → Line
calls c = Line.call c unmarked

abbrev calls_for : Call → List String → Line
calls_for c expected = Line.call c (marked (map ascii expected))

-- a line that is bad
abbrev misnumbered : String → Line
misnumbered word = Line.bad (Fault.bad_number (ascii word))

abbrev unknown : String → Line
unknown word = Line.bad (Fault.unknown_word (ascii word))

abbrev miscounted : Line
miscounted = Line.bad Fault.wrong_count

-- words that are wanted
abbrev wants : (ℕ → List Text → Line) → ℕ → List String → Line
wants line a words = line a (map ascii words)

-- rows of a line and what it says
abbrev Rows : Type 0
Rows = List (String × Line)

abbrev read : Rows → List Line
read rows = map (λ row. line_of (ascii row.0)) rows

abbrev meant : Rows → List Line
meant rows = map (λ row. row.1) rows

-- ---- lines that are passed over, and items
abbrev passed_over_rows : Rows
passed_over_rows =
    ("", Line.silent)
    ∷ (" \t", Line.silent)
    ∷ ("# tick x", Line.silent)
    ∷ ("#tick 1", Line.silent)
    ∷ ("##", Line.silent)
    ∷ ("#", Line.silent)
    ∷ ("item digits   of a word # 1", Line.item (map ascii ("digits" ∷ "of" ∷ "a" ∷ "word" ∷ "#" ∷ "1" ∷ [])))
    ∷ ("item => #", Line.item (map ascii ("=>" ∷ "#" ∷ [])))
    ∷ ("item", miscounted)
    ∷ []

-- ---- each line of the table
abbrev transactions_rows : Rows
transactions_rows =
    ("bus", calls (Call.bus Output.by_frame []))
    ∷ ("bus 38 1a 1A", calls (Call.bus Output.by_frame (0x38 ∷ 0x1A ∷ 0x1A ∷ [])))
    ∷ ("bus out=007 B0 00", calls (Call.bus (Output.out_of 7) (0xB0 ∷ 0 ∷ [])))
    ∷ ("set 30 ffff", calls (Call.set 0x30 (0xFFFF ∷ [])))
    ∷ ("set 43 1 beef", calls (Call.set 0x43 (1 ∷ 0xBEEF ∷ [])))
    ∷ ("flight 460000 470000 / 7FFFFFFF", calls (Call.flight (0x460000 ∷ 0x470000 ∷ []) (0x7FFFFFFF ∷ [])))
    ∷ ("flight /", calls (Call.flight [] []))
    ∷ ("temperature 1 2 3 ffffffff", calls (Call.temperature (1 ∷ 2 ∷ 3 ∷ 0xFFFFFFFF ∷ [])))
    ∷ ("temperature", calls (Call.temperature []))
    ∷ ("flight 0 0 0 0 0 0 0 0 0 0 0 0 0 0 0 0 / 0 0 0 0 0 0 0 0 0 0 0 0 0 0 0 0", calls (Call.flight (replicate 16 0) (replicate 16 0)))
    ∷ ("temperature 0 0 0 0 0 0 0 0 0 0 0 0 0 0 0 0", calls (Call.temperature (replicate 16 0)))
    ∷ []

-- lines of one number, of none, and of a list
abbrev numbered_rows : Rows
numbered_rows =
    ("tick 0000000003", calls (Call.tick 3))
    ∷ ("tick 4294967295", calls (Call.tick 4294967295))
    ∷ ("at 100", calls (Call.at 100))
    ∷ ("stretch 16384", calls (Call.stretch 16384))
    ∷ ("quietest 3", calls (Call.quietest 3))
    ∷ ("degrees F4240 1", calls (Call.degrees 1000000 1))
    ∷ ("listing FFFFFFFF", calls (Call.listing Eight 0xFFFFFFFF))
    ∷ ("listing old 10", calls (Call.listing Two 16))
    ∷ ("frames", calls Call.frames)
    ∷ ("int", Line.ask Ask.int unmarked)
    ∷ ("awaited", Line.ask Ask.awaited unmarked)
    ∷ ("regs", Line.ask Ask.regs unmarked)
    ∷ ("show", Line.show)
    ∷ ("probe 100000 0 4294967295", Line.keep (Keep.probe (100000 ∷ 0 ∷ 4294967295 ∷ [])) unmarked)
    ∷ ("record 5 -5 -0 -2147483648 2147483647", Line.keep (Keep.differences (pos 5 ∷ negsuc 4 ∷ pos 0 ∷ negsuc 2147483647 ∷ pos 2147483647 ∷ [])) unmarked)
    ∷ ("record", Line.keep (Keep.differences []) unmarked)
    ∷ []

-- ---- words that are wanted: a small x is any digit, and digits left out are 0
abbrev wanted_words_rows : Rows
wanted_words_rows =
    ("expect B0 beef 0", wants Line.expect 0xB0 ("BEEF" ∷ "0000" ∷ []))
    ∷ ("read b4 BxEx x xFxx", wants Line.read 0xB4 ("BxEx" ∷ "000x" ∷ "xFxx" ∷ []))
    ∷ ("read FF xxx", wants Line.read 0xFF ("0xxx" ∷ []))
    ∷ ("read FF 0x1", misnumbered "0x1")
    ∷ ("read FF x0x1", wants Line.read 0xFF ("x0x1" ∷ []))
    ∷ ("read FF X", misnumbered "X")
    ∷ ("expect FF 00000", misnumbered "00000")
    ∷ ("read AF 0", misnumbered "AF")
    ∷ ("read Bx 0", misnumbered "Bx")
    ∷ ("expect 0B0 0", misnumbered "0B0")
    ∷ ("read FF 0 zz", miscounted)
    ∷ ("read FE 0 zz 0", misnumbered "zz")
    ∷ ("expect FE", miscounted)
    ∷ ("read", miscounted)
    ∷ ("read FE 0 => ok", misnumbered "=>")
    ∷ ("read FF 0 => ok", miscounted)
    ∷ ("show => x", miscounted)
    ∷ []

-- ---- `=>` and comments
abbrev marks_rows : Rows
marks_rows =
    ("bus 08 => ok flight", calls_for (Call.bus Output.by_frame (8 ∷ [])) ("ok" ∷ "flight" ∷ []))
    ∷ ("bus 08 =>", calls_for (Call.bus Output.by_frame (8 ∷ [])) [])
    ∷ ("tick 5 => 5 => 6", calls_for (Call.tick 5) ("5" ∷ "=>" ∷ "6" ∷ []))
    ∷ ("int => yes", Line.ask Ask.int (marked (ascii "yes" ∷ [])))
    ∷ ("probe 5 => 1", Line.keep (Keep.probe (5 ∷ [])) (marked (ascii "1" ∷ [])))
    ∷ ("tick 1 => 1 # => 2", calls_for (Call.tick 1) ("1" ∷ []))
    ∷ ("tick 1 # => 2", calls (Call.tick 1))
    ∷ ("tick 1 => # 2", calls_for (Call.tick 1) [])
    ∷ ("tick 1 => #2", calls_for (Call.tick 1) ("#2" ∷ []))
    ∷ ("read FF 1 # 2", wants Line.read 0xFF ("0001" ∷ []))
    ∷ ("show # x", Line.show)
    ∷ ("flight 1 / # 2", calls (Call.flight (1 ∷ []) []))
    ∷ ("bus 05 #note", misnumbered "#note")
    ∷ ("tick # 1", miscounted)
    ∷ ("int\r", Line.ask Ask.int unmarked)
    ∷ ("tick 2\r\r", misnumbered "2\r")
    ∷ []

-- ---- bad lines: the first fault that fits, and the first word from the left
abbrev bad_lines_rows : Rows
bad_lines_rows =
    ("buss 05", unknown "buss")
    ∷ ("BUS 05", unknown "BUS")
    ∷ ("=> 5", unknown "=>")
    ∷ ("tick", miscounted)
    ∷ ("tick 1 x", miscounted)
    ∷ ("tick x 1", misnumbered "x")
    ∷ ("tick -1", misnumbered "-1")
    ∷ ("tick 4294967296", misnumbered "4294967296")
    ∷ ("tick 00000000003", misnumbered "00000000003")
    ∷ ("int x", miscounted)
    ∷ ("bus 5", misnumbered "5")
    ∷ ("bus 00 zz 5 yy", misnumbered "zz")
    ∷ ("bus out=201 00", misnumbered "out=201")
    ∷ ("bus out= zz", misnumbered "out=")
    ∷ ("bus 00 out=2", misnumbered "out=2")
    ∷ ("set 2F 0", misnumbered "2F")
    ∷ ("set 44 0", misnumbered "44")
    ∷ ("set 38", miscounted)
    ∷ ("set", miscounted)
    ∷ ("set 38 12345", misnumbered "12345")
    ∷ ("flight 1", miscounted)
    ∷ ("flight 1 / 2 / 3", miscounted)
    ∷ ("flight 1 / 2 / //", misnumbered "//")
    ∷ ("flight 123456789 / zz", misnumbered "123456789")
    ∷ ("flight 0 0 0 0 0 0 0 0 0 0 0 0 0 0 0 0 0 /", miscounted)
    ∷ ("temperature 0 0 0 0 0 0 0 0 0 0 0 0 0 0 0 0 0", miscounted)
    ∷ ("flight / 0 0 0 0 0 0 0 0 0 0 0 0 0 0 0 0 0", miscounted)
    ∷ ("degrees 1", miscounted)
    ∷ ("degrees 1 -2 3", misnumbered "-2")
    ∷ ("degrees 1 2 zz", miscounted)
    ∷ ("listing", miscounted)
    ∷ ("listing old", miscounted)
    ∷ ("listing old old", misnumbered "old")
    ∷ ("listing 0 x", miscounted)
    ∷ ("probe", miscounted)
    ∷ ("probe 1 -0", misnumbered "-0")
    ∷ ("record 1 -2147483649 x", misnumbered "-2147483649")
    ∷ ("record 2147483648", misnumbered "2147483648")
    ∷ []

-- ---- all of these
lines-read : map read (passed_over_rows ∷ transactions_rows ∷ numbered_rows ∷ wanted_words_rows ∷ marks_rows ∷ bad_lines_rows ∷ []) ≡ map meant (passed_over_rows ∷ transactions_rows ∷ numbered_rows ∷ wanted_words_rows ∷ marks_rows ∷ bad_lines_rows ∷ [])
unfolding ascii numeral_are_digits digit_of value_of glyph read_hex value_in read_decimal read_signed negated signed_of without_return same words
    words_after begun_before is_blank line_of words_line item_line worded counted wanted_line addressed address hex each wanted is_wanted
    are_digits is_digit four_digits capital read_by table bus_line bytes_line size decimal set_line one flight_line parted flight_parts
    temperature_line probe_line degrees_line record_line quanta listing_line before_mark behind_mark without_comment
lines-read = refl

-- ---- a line's length: 1,000 bytes, and a carriage return, are no more than a line may have
longest : line_of (ascii "int" ++ replicate 997 0x20 ++ (0x0D ∷ [])) ≡ Line.ask Ask.int unmarked
unfolding ascii numeral_are_digits digit_of value_of glyph read_hex value_in read_decimal read_signed negated signed_of without_return same words
    words_after begun_before is_blank line_of words_line item_line worded counted wanted_line addressed address hex each wanted is_wanted
    are_digits is_digit four_digits capital read_by table bus_line bytes_line size decimal set_line one flight_line parted flight_parts
    temperature_line probe_line degrees_line record_line quanta listing_line before_mark behind_mark without_comment
longest = refl

too_long : line_of (ascii "int" ++ replicate 998 0x20) ≡ Line.bad Fault.too_long
unfolding ascii line_of without_return
too_long = refl

-- a comment alone is no exception
comment_too_long : line_of (replicate 1001 0x23) ≡ Line.bad Fault.too_long
unfolding line_of without_return
comment_too_long = refl

-- 200 bytes and no more; 99 words and no more
most_bytes : bus_line (replicate 200 (ascii "00")) unmarked ≡ calls (Call.bus Output.by_frame (replicate 200 0))
unfolding ascii bus_line same bytes_line each hex read_hex value_in numeral_are_digits digit_of value_of counted
most_bytes = refl

too_many_bytes : bus_line (replicate 201 (ascii "00")) unmarked ≡ miscounted
unfolding ascii bus_line same bytes_line each hex read_hex value_in numeral_are_digits digit_of value_of counted
too_many_bytes = refl

most_words : set_line (ascii "30" ∷ replicate 99 (ascii "0")) unmarked ≡ calls (Call.set 0x30 (replicate 99 0))
unfolding ascii set_line addressed address each hex read_hex value_in numeral_are_digits digit_of value_of counted
most_words = refl

too_many_words : set_line (ascii "30" ∷ replicate 100 (ascii "0")) unmarked ≡ miscounted
unfolding ascii set_line addressed address each hex read_hex value_in numeral_are_digits digit_of value_of counted
too_many_words = refl
