-- What has been read of a line, as the line that it gives. Assumes nothing.
use Rattle.std.specs.Prelude.{ℕ, Option, Result, Ok, Err, Bool, true, false, List, map, ◌≡◌, take, drop}
use Rattle.listing.specs.declared.Width.{Width}
use Rattle.text.specs.declared.Span.{Span}
use Rattle.text.specs.Text.{Text}
use Rattle.item_line.specs.Line.{Call, Expected, Wanted, Line}
use Rattle.item_line.specs.Reading.{four_digits, hex, count, wanted, each, with, counted, one, addressed, table, read_by, without_comment, worded}
use Rattle.item_line.specs.declared.FaultRead.{FaultRead}
use Rattle.item_line.specs.declared.LineRead.{LineRead}
use Rattle.item_line.specs.OwnRead.{as_fault, as_expected, as_line}
use Rattle.item_line_code.specs.declared.Form.{Form}
use Rattle.item_line_code.specs.declared.Counted.{Counted}
use Rattle.item_line_code.specs.OwnNumbers.{formed}
use Rattle.item_line_code.specs.OwnParts.{Within, words_in}

-- Of a number.
unfoldable pub number_line : Text → (ℕ → Line) → Result ℕ FaultRead → Line
number_line text line (Err f) = Line.bad (as_fault text f)
number_line text line (Ok n) = line n

-- Of numbers that were stored.
unfoldable pub count_line : Text → List ℕ → (List ℕ → Line) → Result ℕ FaultRead → Line
count_line text l line (Err f) = Line.bad (as_fault text f)
count_line text l line (Ok n) = line (take n l)

-- Of words that are wanted.
unfoldable pub wanted_by : Text → List Text → (List Wanted → Line) → Result ℕ FaultRead → Line
wanted_by text ws line (Err f) = Line.bad (as_fault text f)
wanted_by text ws line (Ok n) = line (map four_digits ws)

-- What 1 to `most` such words should give; no more are judged.
abbrev pub wanted_up_to : ℕ → List Text → (List Wanted → Line) → Line
wanted_up_to most ws line = with (each wanted (take most ws)) (λ ps. counted 1 most ws (line ps))

-- The two lines of such words.
unfoldable pub wanted_of : Bool → ℕ → List Wanted → Line
wanted_of true a ps = Line.read a ps
wanted_of false a ps = Line.expect a ps

-- Of an address and further words.
unfoldable pub address_line : Text → (ℕ → List Text → Line) → Result (ℕ × Span) FaultRead → Line
address_line text line (Err f) = Line.bad (as_fault text f)
address_line text line (Ok (a, rest)) = line a (words_in text rest)

unfoldable pub WithinRest : Text → Result (ℕ × Span) FaultRead → Type 0
WithinRest text (Err f) = Unit
WithinRest text (Ok (a, rest)) = Within text rest

-- The calls of one decimal.
unfoldable pub counted_call : Counted → ℕ → Call
counted_call Counted.Tick n = Call.tick n
counted_call Counted.At n = Call.at n
counted_call Counted.Stretch n = Call.stretch n
counted_call Counted.Quietest n = Call.quietest n

-- ---- what a function that reads a part promises

-- A line that was read, or why it is no call.
unfoldable pub as_read : Text → List ℕ → Result LineRead FaultRead → Line
as_read text numbers (Err f) = Line.bad (as_fault text f)
as_read text numbers (Ok line) = as_line text numbers line

-- The line that it read is the one that the part's words should give.
abbrev pub Gives : (List Text → Line) → Text → Span → List ℕ → Result LineRead FaultRead → Type 0
Gives line text rest numbers r = as_read text numbers r ≡ line (words_in text rest)

-- The same of a line that may expect an answer.
abbrev pub Says : (List Text → Expected → Line) → Text → Span → Option Span → List ℕ → Result LineRead FaultRead → Type 0
Says line text rest expected = Gives (λ ws. line ws (as_expected text expected)) text rest

-- The lines of one decimal, of one listing, and of words before a comment.
abbrev pub counted_line : Counted → List Text → Expected → Line
counted_line counted ws x = one count (λ n. Line.call (counted_call counted n) x) ws

abbrev pub listing_of : Width → List Text → Expected → Line
listing_of width ws x = one (hex 1 8) (λ c. Line.call (Call.listing width c) x) ws

abbrev pub worded_line : Text → List Text → Line
worded_line w ws = worded w (without_comment ws)

-- The lines of the table from its row n on.
abbrev pub table_from : ℕ → Text → List Text → Expected → Line
table_from n w = read_by (drop n table) w

-- Whatever the line is, what was read gives it as the part's words should.
abbrev pub OneRead : Form → Text → Span → Result ℕ FaultRead → Type 0
OneRead form text rest r = (line : ℕ → Line) → number_line text line r ≡ one (formed form) line (words_in text rest)

abbrev pub CountsRead : Form → ℕ → ℕ → Text → Span → List ℕ → Result ℕ FaultRead → Type 0
CountsRead form least most text rest numbers r =
    let ws = words_in text rest in
    (line : List ℕ → Line) → count_line text numbers line r ≡ with (each (formed form) ws) (λ ns. counted least most ws (line ns))

abbrev pub AddressedRead : ℕ → ℕ → Text → Span → Result (ℕ × Span) FaultRead → Type 0
AddressedRead low high text rest r =
    (line : ℕ → List Text → Line) → address_line text line r ≡ addressed low high line (words_in text rest)

abbrev pub WantedRead : ℕ → Text → Span → Result ℕ FaultRead → Type 0
WantedRead most text rest r =
    (line : List Wanted → Line) → wanted_by text (words_in text rest) line r ≡ wanted_up_to most (words_in text rest) line
