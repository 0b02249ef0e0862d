-- The words of the answers, in the order of the format's tables. An answer is a list of texts that are put one after the other.
-- What stands in quotation marks is that of docs/ITEMS.md. Assumes nothing.
use Rattle.std.specs.Prelude.{ℕ, ◌+◌, ◌%◌, Bool, true, false, cond, List, [], ◌∷◌, ◌++◌, ltb, leb, eqb, get_or}
use Prim.Native.String.{String}
use Rattle.numeral.specs.Digit.{digits}
use Rattle.numeral.specs.Print.{hex_bytes, decimal, signed_decimal, thousandths}
use Rattle.device.specs.declared.Report.{Report}
use Rattle.device.specs.declared.StretchReport.{StretchReport}
use Rattle.device.specs.declared.Answer.{Answer}
use Rattle.device.specs.declared.Answer.TheVariants.{Refused, Accepted, Ticked, Stretched, Good, Failed}
use Rattle.line.specs.declared.Content.{Content}
use Rattle.numeral.specs.Ascii.{ascii}
use Rattle.refusal.specs.Number.{number}

-- The texts of an answer.
abbrev pub Texts : Type 0
Texts = List (List ℕ)

abbrev pub line_feed : List ℕ
line_feed = 10 ∷ []

-- a number, and what it counts
unfoldable pub counted : ℕ → List ℕ → Texts
counted n what = decimal n ∷ what ∷ []

-- ---- refusals

-- WORD, the words of 0 to 21: those of 01's table, of 02, and `capture number` for 20
unfoldable pub refusal_words : List String
refusal_words =
    "record" ∷ "no frame" ∷ "opcode" ∷ "frame length" ∷ "address" ∷ "short output" ∷ "busy" ∷ "calendar"
    ∷ "not initialised" ∷ "set-up" ∷ "not awaited" ∷ "word count" ∷ "span" ∷ "off the table" ∷ "bad table" ∷ "supply off"
    ∷ "flash address" ∷ "not erased" ∷ "width" ∷ "short buffer" ∷ "capture number" ∷ "short output" ∷ []

-- no call answers a number past these
unfoldable pub refusal_word : ℕ → String
refusal_word number = get_or refusal_words number "unknown"

-- " no NUMBER WORD"
unfoldable pub refusal : ℕ → Texts
refusal number = ascii " no " ∷ decimal number ∷ ascii " " ∷ ascii (refusal_word number) ∷ []

-- a line's first word and a refusal
unfoldable pub refused : List ℕ → ℕ → Texts
refused word number = word ∷ (refusal number ++ (line_feed ∷ []))

-- ---- transactions

-- " ok STARTED": "STARTED is `-`, `flight`, `temperature` or `flight+temperature`"
unfoldable pub started : Bool → Bool → Texts
started true true = ascii " ok flight+temperature" ∷ []
started true false = ascii " ok flight" ∷ []
started false true = ascii " ok temperature" ∷ []
started false false = ascii " ok -" ∷ []

-- what a transaction answers; the other answers are those of no transaction
unfoldable pub bus_answer : Answer → Texts
bus_answer (Refused r) = refusal (number r)
bus_answer (Accepted flight temperature) = started flight temperature
bus_answer (Ticked flight temperature) = []
bus_answer (Stretched flight temperature) = []
bus_answer Good = []
bus_answer Failed = []

-- "where the output buffer has bytes, ` out ` and the whole buffer after the call in hexadecimal"
unfoldable pub output_buffer : List ℕ → Texts
output_buffer [] = []
output_buffer (b ∷ bs) = ascii " out " ∷ hex_bytes (b ∷ bs) ∷ []

-- "`bus ok STARTED` or `bus no NUMBER WORD`", then the buffer
unfoldable pub bus : Answer → List ℕ → Texts
bus answer buffer = ascii "bus" ∷ (bus_answer answer ++ (output_buffer buffer ++ (line_feed ∷ [])))

-- "`set ok -` or `set no NUMBER WORD`"
unfoldable pub set : Answer → Texts
set answer = ascii "set" ∷ (bus_answer answer ++ (line_feed ∷ []))

-- ---- ticks

-- a word and a number
unfoldable pub numbered : List ℕ → ℕ → Texts
numbered word n = word ∷ decimal n ∷ []

-- "`tick N`", before what the ticks report
abbrev pub tick_head : ℕ → Texts
tick_head n = numbered (ascii "tick ") n

-- "`at T`", before what the ticks report
abbrev pub at_head : ℕ → Texts
at_head t = numbered (ascii "at ") t

-- a text where a test holds
unfoldable pub reported_where : Bool → List ℕ → Texts
reported_where holds what = cond holds (what ∷ []) []

-- "WHAT is `failed-flight`, `started-flight`, `failed-temperature` or `started-temperature`, in this order within one tick"
unfoldable pub kind_reports : Report → List ℕ → List ℕ → Texts
kind_reports report failed started = reported_where report.failed failed ++ reported_where report.started started

-- whether nothing happened
unfoldable pub quiet : Report → Report → Bool
quiet flight temperature =
    cond flight.started false
    (cond flight.failed false (cond temperature.started false (cond temperature.failed false true)))

-- "`tick N`, then ` WHAT@I` for each thing that the I-th of these ticks reported", of one tick
unfoldable pub ticked : Report → Report → Texts
ticked flight temperature =
    ascii "tick 1"
    ∷ (kind_reports flight (ascii " failed-flight@1") (ascii " started-flight@1")
    ++ (kind_reports temperature (ascii " failed-temperature@1") (ascii " started-temperature@1") ++ (line_feed ∷ [])))

-- the line of a quiet tick is one text
unfoldable pub single : Answer → Texts
single (Refused r) = []
single (Accepted flight temperature) = []
single (Ticked flight temperature) =
    cond (quiet flight temperature) (ascii "tick 1\n" ∷ []) (ticked flight temperature)
single (Stretched flight temperature) = []
single Good = []
single Failed = []

-- " WHAT@I" where a test holds
unfoldable pub report_at : Bool → List ℕ → ℕ → Texts
report_at holds what i = cond holds (what ∷ decimal i ∷ []) []

-- so for each WHAT, in the order in which they are named above
abbrev pub reports_at : Bool → Bool → Bool → Bool → ℕ → Texts
reports_at failed_flight started_flight failed_temperature started_temperature i =
    report_at failed_flight (ascii " failed-flight@") i
    ++ (report_at started_flight (ascii " started-flight@") i
    ++ (report_at failed_temperature (ascii " failed-temperature@") i
    ++ report_at started_temperature (ascii " started-temperature@") i))

-- what tick i of a stretch reported, with `done` ticks before the stretch
unfoldable pub tick_reports : StretchReport → StretchReport → ℕ → ℕ → Texts
tick_reports flight temperature i done =
    let n = (done + i) % 4294967296 in
    reports_at (eqb flight.failed.0 i) (eqb flight.started.0 i) (eqb temperature.failed.0 i) (eqb temperature.started.0 i) n

-- beyond every tick that a stretch names
abbrev pub no_tick : ℕ
no_tick = 4294967295

-- the tick `named` where it lies after `tick` and before `best`, else `best`
unfoldable pub sooner : ℕ → ℕ → ℕ → ℕ
sooner named tick best = cond (leb named tick) best (cond (ltb named best) named best)

-- the first tick after `tick` that a stretch names
unfoldable pub next_named : StretchReport → StretchReport → ℕ → ℕ
next_named flight temperature tick =
    sooner temperature.started.0 tick
    (sooner temperature.failed.0 tick (sooner flight.started.0 tick (sooner flight.failed.0 tick no_tick)))

-- by tick, and "in this order within one tick": the ticks named, the first, the second, and two more at most
unfoldable pub later_named : StretchReport → StretchReport → ℕ → ℕ → Texts
later_named flight temperature tick done =
    let third = next_named flight temperature tick in
    tick_reports flight temperature third done
    ++ tick_reports flight temperature (next_named flight temperature third) done

unfoldable pub named : StretchReport → StretchReport → ℕ → Texts
named flight temperature done =
    let first = next_named flight temperature 0 in
    let second = next_named flight temperature first in
    tick_reports flight temperature first done
    ++ (tick_reports flight temperature second done ++ later_named flight temperature second done)

-- "`stretch N`, then ` WHAT@I`", or "`stretch no 12 span`": what follows the line's first word
unfoldable pub stretched : Answer → ℕ → Texts
stretched (Refused r) n = refusal (number r)
stretched (Accepted flight temperature) n = []
stretched (Ticked flight temperature) n = []
stretched (Stretched flight temperature) n = ascii " " ∷ decimal n ∷ named flight temperature 0
stretched Good n = []
stretched Failed n = []

-- the whole line
unfoldable pub stretch : Answer → ℕ → Texts
stretch answer n = ascii "stretch" ∷ (stretched answer n ++ (line_feed ∷ []))

-- ---- deliveries

unfoldable pub delivery_answer : Answer → Texts
delivery_answer (Refused r) = refusal (number r)
delivery_answer (Accepted flight temperature) = []
delivery_answer (Ticked flight temperature) = []
delivery_answer (Stretched flight temperature) = []
delivery_answer Good = ascii " good" ∷ []
delivery_answer Failed = ascii " failed" ∷ []

-- the first words of the two lines
abbrev pub flight_kind : List ℕ
flight_kind = ascii "flight"

abbrev pub temperature_kind : List ℕ
temperature_kind = ascii "temperature"

-- "`flight good`, `flight failed` or `flight no NUMBER WORD`", and so for the other kind
unfoldable pub delivery : List ℕ → Answer → Texts
delivery kind answer = kind ∷ (delivery_answer answer ++ (line_feed ∷ []))

-- ---- `int`, `awaited` and `regs`

-- "`int yes` or `int no`": no where 0 is told
abbrev pub interrupt_texts : ℕ → Texts
interrupt_texts told = cond (eqb told 0) (ascii "int no\n") (ascii "int yes\n") ∷ []

-- "`awaited F T`, each 0 or 1"
abbrev pub awaited_texts : ℕ → ℕ → Texts
awaited_texts flight temperature = ascii "awaited " ∷ decimal flight ∷ ascii " " ∷ decimal temperature ∷ line_feed ∷ []

-- a blank and a word "of four digits"
unfoldable pub blank_word : ℕ → Texts
blank_word w = ascii " " ∷ digits 16 4 w ∷ []

-- so for each
unfoldable pub word_texts : List ℕ → Texts
word_texts [] = []
word_texts (w ∷ ws) = blank_word w ++ word_texts ws

-- "the first address in two digits, then eight words of four digits"
unfoldable pub row_texts : ℕ → List ℕ → Texts
row_texts a ws = digits 16 2 a ∷ (word_texts ws ++ (line_feed ∷ []))

-- ---- expectations

-- "`expect A ok`, or `expect A differs`", where n words differ
unfoldable pub head : ℕ → ℕ → Texts
head a n = ascii "expect " ∷ digits 16 2 a ∷ cond (eqb n 0) (ascii " ok") (ascii " differs") ∷ []

-- "` AT:HAS/WANTED` for each word that differs"
unfoldable pub pair : ℕ → ℕ → ℕ → Texts
pair address has wanted =
    cond (eqb has wanted) []
    (ascii " " ∷ digits 16 2 address ∷ ascii ":" ∷ digits 16 4 has ∷ ascii "/" ∷ digits 16 4 wanted ∷ [])

-- ---- the set-up as frames

-- "lines `frame B ..`": a blank and two digits a byte
unfoldable pub byte_texts : List ℕ → Texts
byte_texts [] = []
byte_texts (b ∷ bs) = ascii " " ∷ digits 16 2 b ∷ byte_texts bs

unfoldable pub frame_texts : List ℕ → Texts
frame_texts f = ascii "frame" ∷ (byte_texts f ++ (line_feed ∷ []))

unfoldable pub frame_lines : List (List ℕ) → Texts
frame_lines [] = []
frame_lines (f ∷ fs) = frame_texts f ++ frame_lines fs

-- "`frames K`, then K lines": its first line
abbrev pub frames_head : ℕ → Texts
frames_head k = ascii "frames " ∷ counted k line_feed

-- an unsound model, which no item has, gets `frames no 0 record`
abbrev pub frames_refused : ℕ → Texts
frames_refused number = refused (ascii "frames") number

-- ---- what stands beside the model

-- "`probe K`"
unfoldable pub probe : ℕ → Texts
probe entries = ascii "probe " ∷ counted entries line_feed

-- "`degrees D.DDD`"
unfoldable pub degrees : ℕ → Texts
degrees n = ascii "degrees " ∷ thousandths n ∷ line_feed ∷ []

-- "`degrees no 13 off the table` or `degrees no 14 bad table`"
abbrev pub degrees_refused : ℕ → Texts
degrees_refused number = refused (ascii "degrees") number

-- "`record D ..`": a blank and one of them
unfoldable pub difference : ℕ → Texts
difference word = ascii " " ∷ signed_decimal word ∷ []

-- so for each
unfoldable pub difference_texts : List ℕ → Texts
difference_texts [] = []
difference_texts (w ∷ ws) = difference w ++ difference_texts ws

-- "`record D ..`, what was added"
unfoldable pub record_texts : List ℕ → Texts
record_texts ws = ascii "record" ∷ (difference_texts ws ++ (line_feed ∷ []))

-- "`listing K`, then the K lines": its first line
unfoldable pub listing_head : ℕ → Texts
listing_head n = ascii "listing " ∷ counted n line_feed

-- "`listing no 20 capture number`"
abbrev pub listing_refused : ℕ → Texts
listing_refused number = refused (ascii "listing") number

-- "`quietest START SPREAD`"
unfoldable pub quietest : ℕ → ℕ → Texts
quietest start spread = ascii "quietest " ∷ (counted start (ascii " ") ++ counted spread line_feed)

-- "`quietest no 18 width`"
abbrev pub quietest_refused : ℕ → Texts
quietest_refused number = refused (ascii "quietest") number

-- ---- bad lines

-- "one of six texts": a line that can be read is bad where it is an `at` that is `past`, or a `probe` or a `record` that has `no room`. No
-- other one is bad, so that the text given for it here is never told.
unfoldable pub why : Content → String
why Content.Nothing = ": wrong count\n"
why Content.TooLong = ": too long\n"
why Content.UnknownWord = ": unknown word\n"
why Content.BadNumber = ": bad number\n"
why Content.WrongCount = ": wrong count\n"
why Content.Item = ": wrong count\n"
why (Content.Bus n) = ": wrong count\n"
why (Content.BusOut out n) = ": wrong count\n"
why (Content.Tick n) = ": wrong count\n"
why (Content.Flight up down) = ": wrong count\n"
why (Content.Temperature n) = ": wrong count\n"
why Content.Int = ": wrong count\n"
why Content.Awaited = ": wrong count\n"
why Content.Regs = ": wrong count\n"
why (Content.Expect a n) = ": wrong count\n"
why Content.Show = ": wrong count\n"
why (Content.Set a n) = ": wrong count\n"
why (Content.At n) = ": past\n"
why (Content.Stretch n) = ": wrong count\n"
why Content.Frames = ": wrong count\n"
why (Content.Probe n) = ": no room\n"
why Content.Degrees = ": wrong count\n"
why (Content.Record n) = ": no room\n"
why (Content.Listing old first) = ": wrong count\n"
why (Content.Quietest n) = ": wrong count\n"

-- "the answer is `line L: ` and one of six texts"
unfoldable pub fault : ℕ → Content → Texts
fault number content = ascii "line " ∷ decimal number ∷ ascii (why content) ∷ []

-- ---- what stands around an answer

-- "`FILE:LINE: ANSWER`": what stands before an answer that needs a look
unfoldable pub place : List ℕ → ℕ → Texts
place file number = file ∷ ascii ":" ∷ counted number (ascii ": ")

-- "` expected `" and the words, behind an answer that differs from them
unfoldable pub expected : List ℕ → Texts
expected words = ascii " expected " ∷ words ∷ []

-- "` ..`", for the rest of an answer that is not shown
unfoldable pub left_out : Texts
left_out = ascii " .." ∷ []

-- the item's name in parentheses, at the end of a line that needs a look
unfoldable pub item_name : List ℕ → Texts
item_name name = ascii " (" ∷ name ∷ ascii ")\n" ∷ []

-- ---- the last line

-- "`end C calls, R refused, U unannounced, "
unfoldable pub calls : ℕ → ℕ → ℕ → Texts
calls c r u =
    ascii "end " ∷ (counted c (ascii " calls, ") ++ (counted r (ascii " refused, ") ++ counted u (ascii " unannounced, ")))

-- "B bad lines, E expectations, X differ`"
unfoldable pub faults : ℕ → ℕ → ℕ → Texts
faults b e x = counted b (ascii " bad lines, ") ++ (counted e (ascii " expectations, ") ++ counted x (ascii " differ\n"))
