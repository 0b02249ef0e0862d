-- What a line holds, in the order of the format's tables. Assumes nothing.
use Rattle.std.specs.Prelude.{ℕ, ◌-◌, ◌≤◌, Bool, true, false, cond, List, [], ◌∷◌, ltb, eqb, length, get_or, take, drop, Option, Some, None}
use Rattle.numeral.specs.Ascii.{ascii}
use Rattle.numeral.specs.Read.{read_hex, read_decimal}
use Rattle.line.specs.declared.Content.{Content}
use Rattle.line.specs.declared.Content.TheVariants.{Nothing, TooLong, UnknownWord, BadNumber, WrongCount, Bus, BusOut}
use Rattle.line.specs.declared.Keyword.{Keyword}
use Rattle.line.specs.declared.Counted.{Counted}
use Rattle.line.specs.declared.Form.{Form}
use Rattle.line.specs.declared.Tally.{Tally}
use Rattle.line.specs.declared.Tally.TheVariants.{Wrong, All}
use Rattle.line.specs.Words.{words, same_bytes}
use Rattle.line.specs.Numbers.{Outcome, tallied}
use Rattle.line.specs.Decimals.{listed}
use Rattle.line.specs.Mark.{takes_mark, call_words, expected_words}

-- What a line holds, and the buffer that the line's numbers were stored in.
pub record Reading : Type 0 where
  pub content : Content
  pub numbers : List ℕ

abbrev pub reading : Content → List ℕ → Reading
reading c l = record { content = c; numbers = l }

-- What a line of a list of numbers holds.
abbrev pub read_by : (Tally → Content) → Outcome → Reading
read_by f o = reading (f o.tally) o.numbers

-- The count of numbers that no list reaches: every word is looked into.
abbrev pub every : ℕ
every = 18446744073709551615

-- `item NAME ..`: NAME is one or more words.
unfoldable pub item_call : List (List ℕ) → Content
item_call [] = WrongCount
item_call (w ∷ ws) = Content.Item

-- `bus B ..`: 0 to 200 bytes of two hexadecimal digits each, every word judged before their number is.
abbrev pub byte_form : Form
byte_form = record { least = 2; most = 2; looked = every; slash = false }

unfoldable pub bytes_call : (ℕ → Content) → Tally → Content
bytes_call content Wrong = BadNumber
bytes_call content (All n k u) = cond (ltb 200 n) WrongCount (content n)

unfoldable pub bytes_reading : (ℕ → Content) → List ℕ → List (List ℕ) → Reading
bytes_reading content l ws = read_by (bytes_call content) (tallied byte_form 0 0 0 l ws)

-- `bus out=N B ..`: the same with an output buffer of N bytes, N decimal, 0 to 200.
unfoldable pub is_out : List ℕ → Bool
is_out w = cond (ltb (length w) 4) false (same_bytes (take 4 w) (ascii "out="))

unfoldable pub out_reading : Option ℕ → List ℕ → List (List ℕ) → Reading
out_reading None l ws = reading BadNumber l
out_reading (Some b) l ws = bytes_reading (BusOut b) l ws

unfoldable pub bus_reading : List ℕ → List (List ℕ) → Reading
bus_reading l [] = bytes_reading Bus l []
bus_reading l (w ∷ ws) = cond (is_out w) (out_reading (read_decimal 200 (drop 4 w)) l ws) (bytes_reading Bus l (w ∷ ws))

-- `int`, `awaited`, `regs` and `show`, and what else is whole: no further word.
unfoldable pub alone : Content → List (List ℕ) → Content
alone c [] = c
alone c (w ∷ ws) = WrongCount

-- `tick N`, `at T`, `stretch N` and `quietest W`: one decimal, 0 to 4,294,967,295. Words past those that a line can have are not looked
-- into.
unfoldable pub numbered : Counted → ℕ → Content
numbered Counted.Tick n = Content.Tick n
numbered Counted.At n = Content.At n
numbered Counted.Stretch n = Content.Stretch n
numbered Counted.Quietest n = Content.Quietest n

unfoldable pub decimal_with : Counted → Option ℕ → List (List ℕ) → Content
decimal_with k None ws = BadNumber
decimal_with k (Some n) ws = alone (numbered k n) ws

unfoldable pub decimal_call : Counted → List (List ℕ) → Content
decimal_call k [] = WrongCount
decimal_call k (w ∷ ws) = decimal_with k (read_decimal 4294967295 w) ws

-- `flight U .. / D ..`: the up words, one `/`, the down words; 0 to 16 in each list, 1 to 8 hexadecimal digits each, every word judged
-- before their number is.
abbrev pub word_form : Bool → Form
word_form slash = record { least = 1; most = 8; looked = every; slash = slash }

unfoldable pub flight_call : Tally → Content
flight_call Wrong = BadNumber
flight_call (All n k u) =
    cond (eqb k 1) (cond (ltb 16 u) WrongCount (cond (ltb 16 (n - u)) WrongCount (Content.Flight u (n - u)))) WrongCount

unfoldable pub flight_reading : List ℕ → List (List ℕ) → Reading
flight_reading l ws = read_by flight_call (tallied (word_form true) 0 0 0 l ws)

-- `temperature W ..`: 0 to 16 words of 1 to 8 hexadecimal digits, every word judged before their number is.
unfoldable pub temperature_call : Tally → Content
temperature_call Wrong = BadNumber
temperature_call (All n k u) = cond (ltb 16 n) WrongCount (Content.Temperature n)

unfoldable pub temperature_reading : List ℕ → List (List ℕ) → Reading
temperature_reading l ws = read_by temperature_call (tallied (word_form false) 0 0 0 l ws)

-- `expect A W ..`: A two hexadecimal digits, B0 to FF, then 1 to 100h − A words of 1 to 4 digits. Words past those that a line can have
-- are not looked into.
abbrev pub expect_form : ℕ → Form
expect_form a = record { least = 1; most = 4; looked = 256 - a; slash = false }

unfoldable pub expect_call : ℕ → Tally → Content
expect_call a Wrong = BadNumber
expect_call a (All n k u) = cond (ltb n 1) WrongCount (cond (ltb (256 - a) n) WrongCount (Content.Expect a n))

unfoldable pub expect_words : ℕ → List ℕ → List (List ℕ) → Reading
expect_words a l ws = read_by (expect_call a) (tallied (expect_form a) 0 0 0 l ws)

unfoldable pub expect_from : Option ℕ → List ℕ → List (List ℕ) → Reading
expect_from None l ws = reading BadNumber l
expect_from (Some a) l ws = cond (ltb a 176) (reading BadNumber l) (cond (ltb 255 a) (reading BadNumber l) (expect_words a l ws))

unfoldable pub expect_reading : List ℕ → List (List ℕ) → Reading
expect_reading l [] = reading WrongCount l
expect_reading l (w ∷ ws) = expect_from (read_hex 2 2 w) l ws

-- `set A W ..`: A two hexadecimal digits 30 to 43, and 1 to 99 words of 1 to 4 hexadecimal digits, every word judged before their number
-- is.
abbrev pub set_form : Form
set_form = record { least = 1; most = 4; looked = every; slash = false }

unfoldable pub set_call : ℕ → Tally → Content
set_call a Wrong = BadNumber
set_call a (All n k u) = cond (ltb n 1) WrongCount (cond (ltb 99 n) WrongCount (Content.Set a n))

unfoldable pub set_words : ℕ → List ℕ → List (List ℕ) → Reading
set_words a l ws = read_by (set_call a) (tallied set_form 0 0 0 l ws)

unfoldable pub set_from : Option ℕ → List ℕ → List (List ℕ) → Reading
set_from None l ws = reading BadNumber l
set_from (Some a) l ws = cond (ltb a 48) (reading BadNumber l) (cond (ltb 67 a) (reading BadNumber l) (set_words a l ws))

unfoldable pub set_reading : List ℕ → List (List ℕ) → Reading
set_reading l [] = reading WrongCount l
set_reading l (w ∷ ws) = set_from (read_hex 2 2 w) l ws

-- `probe R ..`: one or more decimals, every word judged before their number is.
unfoldable pub probe_call : Tally → Content
probe_call Wrong = BadNumber
probe_call (All n k u) = cond (ltb n 1) WrongCount (Content.Probe n)

unfoldable pub probe_reading : List ℕ → List (List ℕ) → Reading
probe_reading l ws = read_by probe_call (listed false 0 l ws)

-- `degrees A B`: two words of 1 to 8 hexadecimal digits.
abbrev pub pair_form : Form
pair_form = record { least = 1; most = 8; looked = 2; slash = false }

unfoldable pub degrees_call : Tally → Content
degrees_call Wrong = BadNumber
degrees_call (All n k u) = cond (eqb n 2) Content.Degrees WrongCount

unfoldable pub degrees_reading : List ℕ → List (List ℕ) → Reading
degrees_reading l ws = read_by degrees_call (tallied pair_form 0 0 0 l ws)

-- `record D ..`: decimals with a sign, or none.
unfoldable pub record_call : Tally → Content
record_call Wrong = BadNumber
record_call (All n k u) = Content.Record n

unfoldable pub record_reading : List ℕ → List (List ℕ) → Reading
record_reading l ws = read_by record_call (listed true 0 l ws)

-- `listing C`, `listing old C`: 1 to 8 hexadecimal digits.
unfoldable pub hex_with : Bool → Option ℕ → List (List ℕ) → Content
hex_with old None ws = BadNumber
hex_with old (Some n) ws = alone (Content.Listing old n) ws

unfoldable pub hex_call : Bool → List (List ℕ) → Content
hex_call old [] = WrongCount
hex_call old (w ∷ ws) = hex_with old (read_hex 1 8 w) ws

unfoldable pub listing_call : List (List ℕ) → Content
listing_call [] = WrongCount
listing_call (w ∷ ws) = cond (same_bytes w (ascii "old")) (hex_call true ws) (hex_call false (w ∷ ws))

-- The first word, in small letters.
abbrev pub last_keyword : List ℕ → Keyword
last_keyword w =
    cond (same_bytes w (ascii "degrees")) Keyword.Degrees
    (cond (same_bytes w (ascii "record")) Keyword.Record
    (cond (same_bytes w (ascii "listing")) Keyword.Listing
    (cond (same_bytes w (ascii "quietest")) Keyword.Quietest Keyword.Unknown)))

abbrev pub later_keyword : List ℕ → Keyword
later_keyword w =
    cond (same_bytes w (ascii "set")) Keyword.Set
    (cond (same_bytes w (ascii "at")) Keyword.At
    (cond (same_bytes w (ascii "stretch")) Keyword.Stretch
    (cond (same_bytes w (ascii "frames")) Keyword.Frames
    (cond (same_bytes w (ascii "probe")) Keyword.Probe (last_keyword w)))))

abbrev pub other_keyword : List ℕ → Keyword
other_keyword w =
    cond (same_bytes w (ascii "int")) Keyword.Int
    (cond (same_bytes w (ascii "awaited")) Keyword.Awaited
    (cond (same_bytes w (ascii "regs")) Keyword.Regs
    (cond (same_bytes w (ascii "expect")) Keyword.Expect
    (cond (same_bytes w (ascii "show")) Keyword.Show (later_keyword w)))))

unfoldable pub keyword_of : List ℕ → Keyword
keyword_of w =
    cond (same_bytes w (ascii "item")) Keyword.Item
    (cond (same_bytes w (ascii "bus")) Keyword.Bus
    (cond (same_bytes w (ascii "tick")) Keyword.Tick
    (cond (same_bytes w (ascii "flight")) Keyword.Flight
    (cond (same_bytes w (ascii "temperature")) Keyword.Temperature (other_keyword w)))))

-- the lines of 02's calls, and unknown words; those of the other words are read by `keyword_reading` itself, and do not come here
unfoldable pub later_reading : Keyword → List ℕ → List (List ℕ) → Reading
later_reading Keyword.Set l ws = set_reading l ws
later_reading Keyword.At l ws = reading (decimal_call Counted.At ws) l
later_reading Keyword.Stretch l ws = reading (decimal_call Counted.Stretch ws) l
later_reading Keyword.Frames l ws = reading (alone Content.Frames ws) l
later_reading Keyword.Probe l ws = probe_reading l ws
later_reading Keyword.Degrees l ws = degrees_reading l ws
later_reading Keyword.Record l ws = record_reading l ws
later_reading Keyword.Listing l ws = reading (listing_call ws) l
later_reading Keyword.Quietest l ws = reading (decimal_call Counted.Quietest ws) l
later_reading Keyword.Item l ws = reading UnknownWord l
later_reading Keyword.Bus l ws = reading UnknownWord l
later_reading Keyword.Tick l ws = reading UnknownWord l
later_reading Keyword.Flight l ws = reading UnknownWord l
later_reading Keyword.Temperature l ws = reading UnknownWord l
later_reading Keyword.Int l ws = reading UnknownWord l
later_reading Keyword.Awaited l ws = reading UnknownWord l
later_reading Keyword.Regs l ws = reading UnknownWord l
later_reading Keyword.Expect l ws = reading UnknownWord l
later_reading Keyword.Show l ws = reading UnknownWord l
later_reading Keyword.Unknown l ws = reading UnknownWord l

unfoldable pub keyword_reading : Keyword → List ℕ → List (List ℕ) → Reading
keyword_reading Keyword.Item l ws = reading (item_call ws) l
keyword_reading Keyword.Bus l ws = bus_reading l ws
keyword_reading Keyword.Tick l ws = reading (decimal_call Counted.Tick ws) l
keyword_reading Keyword.Flight l ws = flight_reading l ws
keyword_reading Keyword.Temperature l ws = temperature_reading l ws
keyword_reading Keyword.Int l ws = reading (alone Content.Int ws) l
keyword_reading Keyword.Awaited l ws = reading (alone Content.Awaited ws) l
keyword_reading Keyword.Regs l ws = reading (alone Content.Regs ws) l
keyword_reading Keyword.Expect l ws = expect_reading l ws
keyword_reading Keyword.Show l ws = reading (alone Content.Show ws) l
keyword_reading Keyword.Set l ws = later_reading Keyword.Set l ws
keyword_reading Keyword.At l ws = later_reading Keyword.At l ws
keyword_reading Keyword.Stretch l ws = later_reading Keyword.Stretch l ws
keyword_reading Keyword.Frames l ws = later_reading Keyword.Frames l ws
keyword_reading Keyword.Probe l ws = later_reading Keyword.Probe l ws
keyword_reading Keyword.Degrees l ws = later_reading Keyword.Degrees l ws
keyword_reading Keyword.Record l ws = later_reading Keyword.Record l ws
keyword_reading Keyword.Listing l ws = later_reading Keyword.Listing l ws
keyword_reading Keyword.Quietest l ws = later_reading Keyword.Quietest l ws
keyword_reading Keyword.Unknown l ws = later_reading Keyword.Unknown l ws

-- A line with no word, and one whose first word starts with `#`, is passed over. The call's words are those before `=>`.
unfoldable pub words_reading : List ℕ → List (List ℕ) → Reading
words_reading l [] = reading Nothing l
words_reading l (w ∷ ws) =
    cond (eqb (get_or w 0 0) 35) (reading Nothing l) (keyword_reading (keyword_of w) l (call_words (takes_mark (keyword_of w)) ws))

-- The words that a line expects of its answer, in a list of one, or none.
unfoldable pub words_expected : List (List ℕ) → List (List (List ℕ))
words_expected [] = []
words_expected (w ∷ ws) = cond (eqb (get_or w 0 0) 35) [] (expected_words (takes_mark (keyword_of w)) ws)

-- One carriage return at a line's end is dropped, and not counted.
unfoldable pub content_length : List ℕ → ℕ
content_length cs = cond (eqb (get_or cs (length cs - 1) 0) 13) (length cs - 1) (length cs)

-- A line, without its line feed, has at most 1,000 bytes.
unfoldable pub line_reading : List ℕ → List ℕ → Reading
line_reading l cs = cond (ltb 1000 (content_length cs)) (reading TooLong l) (words_reading l (words (take (content_length cs) cs)))

unfoldable pub line_expected : List ℕ → List (List (List ℕ))
line_expected cs = cond (ltb 1000 (content_length cs)) [] (words_expected (words (take (content_length cs) cs)))

-- What the numbers of a call keep to.
abbrev pub Bounded : Content → Type 0
Bounded Nothing = Unit
Bounded TooLong = Unit
Bounded UnknownWord = Unit
Bounded BadNumber = Unit
Bounded WrongCount = Unit
Bounded Content.Item = Unit
Bounded (Bus n) = n ≤ 200
Bounded (BusOut b n) = (b ≤ 200) × (n ≤ 200)
Bounded (Content.Tick n) = Unit
Bounded (Content.Flight u d) = (u ≤ 16) × (d ≤ 16)
Bounded (Content.Temperature n) = n ≤ 16
Bounded Content.Int = Unit
Bounded Content.Awaited = Unit
Bounded Content.Regs = Unit
Bounded (Content.Expect a n) = (176 ≤ a) × (a ≤ 255) × (1 ≤ n) × (n ≤ 256 - a)
Bounded Content.Show = Unit
Bounded (Content.Set a n) = (48 ≤ a) × (a ≤ 67) × (1 ≤ n) × (n ≤ 99)
Bounded (Content.At n) = Unit
Bounded (Content.Stretch n) = Unit
Bounded Content.Frames = Unit
Bounded (Content.Probe n) = 1 ≤ n
Bounded Content.Degrees = Unit
Bounded (Content.Record n) = Unit
Bounded (Content.Listing old n) = Unit
Bounded (Content.Quietest n) = Unit
