-- What the last line of a text counts, from line to line: "`end C calls, R refused, U unannounced, B bad lines, E expectations, X differ`".
-- Each line is judged by the `Page` that the lines before it left. What stands in quotation marks is that of docs/ITEMS.md. Assumes nothing.
use Rattle.std.specs.Prelude.{ℕ, ◌+◌, Bool, true, false, cond, List, [], ◌∷◌, take}
use Rattle.numeral.specs.Place.{joined}
use Rattle.device.specs.declared.Model.{Model}
use Rattle.line.specs.declared.Content.{Content}
use Rattle.line.specs.Line.{Reading, line_reading}
use Rattle.numeral.specs.Ascii.{ascii}
use Rattle.wording.specs.Wording.{Texts}
use Rattle.item_questions.specs.Answers.{differing}
use Rattle.item_checks.specs.Fault.{is_fault}
use Rattle.item_checks.specs.Close.{expected_of, begins_with}
use Rattle.answer_text.specs.Texts.{Told}
use Rattle.line_text.specs.Text.{head_of, shown_answer}
use Rattle.replay_text.specs.Replay.{own_whole, Page, page_line}

abbrev pub counts_of : Page → List ℕ
counts_of p = p.replay.state.log.counts

abbrev pub read_on : List ℕ → Page → Reading
read_on line p = line_reading p.numbers line

-- What a line tells of itself: its answer, without the head that it has in a check and without what it is expected to be.
unfoldable pub line_own : List ℕ → Page → Told
line_own line p =
    let read = read_on line p in
    own_whole read.content line read.numbers p.replay.names p.replay.state (head_of p.replay).counts

-- ---- B

-- "A line that is none of these is no call"
unfoldable pub is_bad : List ℕ → Page → Bool
is_bad line p = is_fault (read_on line p).content (counts_of p)

-- ---- C, R and U

-- "C counts the lines `bus`, `set`, `tick`, `at`, `stretch`, `flight`, `temperature`, `frames`, `degrees`, `listing` and `quietest`"
unfoldable pub is_call_line : Content → Bool
is_call_line Content.Nothing = false
is_call_line Content.TooLong = false
is_call_line Content.UnknownWord = false
is_call_line Content.BadNumber = false
is_call_line Content.WrongCount = false
is_call_line Content.Item = false
is_call_line (Content.Bus n) = true
is_call_line (Content.BusOut size n) = true
is_call_line (Content.Tick n) = true
is_call_line (Content.Flight up down) = true
is_call_line (Content.Temperature n) = true
is_call_line Content.Int = false
is_call_line Content.Awaited = false
is_call_line Content.Regs = false
is_call_line (Content.Expect a n) = false
is_call_line Content.Show = false
is_call_line (Content.Set a n) = true
is_call_line (Content.At t) = true
is_call_line (Content.Stretch n) = true
is_call_line Content.Frames = true
is_call_line (Content.Probe n) = false
is_call_line Content.Degrees = true
is_call_line (Content.Record n) = false
is_call_line (Content.Listing old first) = true
is_call_line (Content.Quietest n) = true

-- "that were calls": a bad line was none
unfoldable pub was_call : List ℕ → Page → Bool
was_call line p = cond (is_bad line p) false (is_call_line (read_on line p).content)

-- "R those of them answered `no`": as `=> no` judges an answer
abbrev pub says_no : Texts → Bool
says_no texts = begins_with (ascii "no") (joined texts)

unfoldable pub answered_no : List ℕ → Page → Bool
answered_no line p = cond (was_call line p) (says_no (line_own line p).texts) false

-- ---- E and X

-- "the words of `expect` lines": how many they are, and how many differ
unfoldable pub words_compared : Content → ℕ
words_compared Content.Nothing = 0
words_compared Content.TooLong = 0
words_compared Content.UnknownWord = 0
words_compared Content.BadNumber = 0
words_compared Content.WrongCount = 0
words_compared Content.Item = 0
words_compared (Content.Bus n) = 0
words_compared (Content.BusOut size n) = 0
words_compared (Content.Tick n) = 0
words_compared (Content.Flight up down) = 0
words_compared (Content.Temperature n) = 0
words_compared Content.Int = 0
words_compared Content.Awaited = 0
words_compared Content.Regs = 0
words_compared (Content.Expect a n) = n
words_compared Content.Show = 0
words_compared (Content.Set a n) = 0
words_compared (Content.At t) = 0
words_compared (Content.Stretch n) = 0
words_compared Content.Frames = 0
words_compared (Content.Probe n) = 0
words_compared Content.Degrees = 0
words_compared (Content.Record n) = 0
words_compared (Content.Listing old first) = 0
words_compared (Content.Quietest n) = 0

unfoldable pub words_differ : Content → List ℕ → Model → ℕ
words_differ Content.Nothing numbers m = 0
words_differ Content.TooLong numbers m = 0
words_differ Content.UnknownWord numbers m = 0
words_differ Content.BadNumber numbers m = 0
words_differ Content.WrongCount numbers m = 0
words_differ Content.Item numbers m = 0
words_differ (Content.Bus n) numbers m = 0
words_differ (Content.BusOut size n) numbers m = 0
words_differ (Content.Tick n) numbers m = 0
words_differ (Content.Flight up down) numbers m = 0
words_differ (Content.Temperature n) numbers m = 0
words_differ Content.Int numbers m = 0
words_differ Content.Awaited numbers m = 0
words_differ Content.Regs numbers m = 0
words_differ (Content.Expect a n) numbers m = differing m a (take n numbers)
words_differ Content.Show numbers m = 0
words_differ (Content.Set a n) numbers m = 0
words_differ (Content.At t) numbers m = 0
words_differ (Content.Stretch n) numbers m = 0
words_differ Content.Frames numbers m = 0
words_differ (Content.Probe n) numbers m = 0
words_differ Content.Degrees numbers m = 0
words_differ (Content.Record n) numbers m = 0
words_differ (Content.Listing old first) numbers m = 0
words_differ (Content.Quietest n) numbers m = 0

-- "the `=>`": a line has at most one; the list has what stands behind it as its only text, and is empty where there is none
abbrev pub marks : List (List ℕ) → ℕ
marks [] = 0
marks (wanted ∷ others) = 1

-- whether an answer begins with the words behind the `=>`, and how many `=>` differ, 0 or 1
abbrev pub begins_so : List (List ℕ) → List ℕ → Bool
begins_so [] answer = false
begins_so (wanted ∷ others) answer = begins_with wanted answer

abbrev pub marks_differ : List (List ℕ) → List ℕ → ℕ
marks_differ [] answer = 0
marks_differ (wanted ∷ others) answer = cond (begins_with wanted answer) 0 1

-- The answer that is judged; in a check, "of an answer of more than 2,051 bytes, its line feeds among them, the first 2,048 and ` ..`".
abbrev pub answer_shown : List ℕ → Page → List ℕ
answer_shown line p = shown_answer (counts_of p) (joined (line_own line p).texts)

-- "E the words of `expect` lines and the `=>`"; "A bad line has no expectation: what stands behind its `=>` is not counted."
unfoldable pub expectations : List ℕ → Page → ℕ
expectations line p =
    let read = read_on line p in
    cond (is_bad line p) 0 (words_compared read.content + marks (expected_of line))

-- "X those of E that differ"
unfoldable pub differences : List ℕ → Page → ℕ
differences line p =
    let read = read_on line p in
    cond (is_bad line p) 0 (words_differ read.content read.numbers p.replay.state.model + marks_differ (expected_of line) (answer_shown line p))

-- "U those of R that are not announced": a refusal is announced by a `=>` with whose words the answer begins
unfoldable pub is_unannounced : List ℕ → Page → Bool
is_unannounced line p = cond (answered_no line p) (cond (begins_so (expected_of line) (answer_shown line p)) false true) false

-- ---- over lines

-- a sum over lines
unfoldable pub over_lines : (List ℕ → Page → ℕ) → List (List ℕ) → Page → ℕ
over_lines each [] p = 0
over_lines each (l ∷ ls) p = each l p + over_lines each ls (page_line l p)

-- how many lines are such
abbrev pub lines_that : (List ℕ → Page → Bool) → List (List ℕ) → Page → ℕ
lines_that test ls p = over_lines (λ line q. cond (test line q) 1 0) ls p
