-- The text that a line adds to what is written, apart from the buffer that it is put into. It is of a line that is answered whole: no
-- line is under way before it or after it. What stands in quotation marks is that of docs/ITEMS.md. Assumes nothing.
use Rattle.std.specs.Prelude.{ℕ, ◌+◌, Bool, false, cond, List, [], ◌∷◌, ◌++◌, eqb, length, get_or, set, take, drop}
use Rattle.numeral.specs.Place.{put_each, joined}
use Rattle.line.specs.declared.Content.{Content}
use Rattle.wording.specs.Wording.{line_feed, expected as expected_texts, fault, place}
use Rattle.item_state.specs.Log.{added}
use Rattle.item_calls.specs.Lines.{WithFlash}
use Rattle.item_checks.specs.Fault.{is_fault, left_of}
use Rattle.item_checks.specs.Open.{line_counted, is_item}
use Rattle.item_checks.specs.Close.{line_words, place_of, begins_with, is_not_bad, is_announced, refusal_counted, briefly, trouble, tail}
use Rattle.answer_text.specs.Texts.{Told, silent, behind, asked}
use Rattle.answer_text.specs.Line.{line_told}
use Rattle.session.specs.Line.{State, Replay}

-- ---- before the line's own answer

-- In a check, "each as `FILE:LINE: ANSWER`"; what needed a look before the line is kept.
unfoldable pub head_told : List ℕ → List ℕ → Told
head_told names counts =
    let kept = set counts 19 (trouble counts) in
    cond (eqb (get_or counts 14 0) 0) (silent counts) (asked (place (take (get_or kept 16 0) names) (get_or kept 2 0)) kept)

-- The line is counted, and its own answer starts behind the head: count 20.
unfoldable pub begun_told : List ℕ → List ℕ → Told
begun_told names counts =
    let head = head_told names (line_counted counts) in
    record { texts = head.texts; counts = set head.counts 20 (get_or counts 0 0 + length (joined head.texts)) }

-- ---- the line's own answer

-- "the answer is `line L: ` and one of six texts, L being the line's number"
unfoldable pub fault_told : Content → List ℕ → Told
fault_told content counts =
    let more = added counts 6 1 in cond (is_fault content counts) (asked (fault (get_or more 2 0) content) more) (silent counts)

-- "`item NAME ..`": "the line's words, parted by one blank"; they are kept among the names, up to count 15
unfoldable pub item_told : Content → List ℕ → List ℕ → List ℕ → Told
item_told content text names counts =
    cond (is_item content) (asked (line_words text ++ (line_feed ∷ [])) (set counts 15 (put_each names 4096 (line_words text)).next))
    (silent counts)

unfoldable pub names_after : Content → List ℕ → List ℕ → List ℕ
names_after content text names = cond (is_item content) (put_each names 4096 (line_words text)).bytes names

-- the model and the user flash with counts, and no buffer
abbrev pub bare : State → List ℕ → WithFlash
bare s counts = record { model = s.model; flash = s.flash; log = record { counts = counts; answers = [] } }

-- A bad line, an item's name, and then what any other line tells of the model or what is kept beside it; each line is one of these.
unfoldable pub own_told : Content → List ℕ → List ℕ → List ℕ → State → List ℕ → Told
own_told content text numbers names s counts =
    let left = left_of content counts in
    behind (behind (fault_told content counts) (item_told left text names))
    (λ after. line_told left numbers (bare s after) s.differences s.probes)

-- ---- behind it

-- The answer that is judged and shown: in a check, "of an answer of more than 2,051 bytes, its line feeds among them, the first 2,048
-- and ` ..` are taken for it"
unfoldable pub shown_answer : List ℕ → List ℕ → List ℕ
shown_answer counts answer = cond (eqb (get_or counts 14 0) 0) answer (briefly answer)

-- "What differs stands behind ` expected ` in the answer's first line."
unfoldable pub differing_text : List ℕ → List ℕ → List ℕ
differing_text wanted answer =
    take (place_of 10 answer) answer ++ (joined (expected_texts wanted) ++ drop (place_of 10 answer) answer)

-- "`=>` and the words that its answer begins with": the text of the answer, then the counts
unfoldable pub judged_text : List (List ℕ) → List ℕ → List ℕ → List ℕ
judged_text [] counts answer = answer
judged_text (wanted ∷ others) counts answer =
    cond (is_not_bad counts) (cond (begins_with wanted answer) answer (differing_text wanted answer)) answer

-- "E the words of `expect` lines and the `=>`, X those of E that differ"
unfoldable pub judged_counts : List (List ℕ) → List ℕ → List ℕ → List ℕ
judged_counts [] counts answer = counts
judged_counts (wanted ∷ others) counts answer =
    let more = added counts 7 1 in cond (is_not_bad counts) (cond (begins_with wanted answer) more (added more 8 1)) counts

-- "U those of R that are not announced"
unfoldable pub closed_counts : List (List ℕ) → List ℕ → List ℕ → List ℕ
closed_counts expected counts answer = refusal_counted (is_announced expected counts answer) (judged_counts expected counts answer)

-- "`--check` prints nothing of an item but what needs a look": of its answer the first line, "with the item's name"
unfoldable pub looked_text : List ℕ → List ℕ → List ℕ → List ℕ → List ℕ
looked_text names counts head answer =
    cond (eqb (trouble counts) (get_or counts 19 0)) []
    (head ++ (take (place_of 10 answer) answer ++ joined (tail names counts)))

unfoldable pub closed_text : List ℕ → List ℕ → List ℕ → List ℕ → List ℕ
closed_text names counts head answer =
    cond (eqb (get_or counts 14 0) 0) (head ++ answer) (looked_text names counts head answer)

-- ---- all of it

-- The text of a line by what it tells: the words that it expects, the names after it, its head, its own answer
unfoldable pub told_text : List (List ℕ) → List ℕ → Told → Told → List ℕ
told_text expected names head own =
    let answer = shown_answer own.counts (joined own.texts) in
    closed_text names (closed_counts expected own.counts answer) (joined head.texts) (judged_text expected own.counts answer)

-- The counts after it, but for the first, which is where the answers end.
unfoldable pub told_counts : List (List ℕ) → Told → List ℕ
told_counts expected own = closed_counts expected own.counts (shown_answer own.counts (joined own.texts))

-- what a line tells before it is closed: the head, and its own answer
abbrev pub head_of : Replay → Told
head_of r = begun_told r.names r.state.log.counts

abbrev pub own_of : Content → List ℕ → List ℕ → Replay → Told
own_of content text numbers r = own_told content text numbers r.names r.state (head_of r).counts

-- The text of a line that was read: its content, the words that it expects, its bytes and its numbers. Of what was kept it goes by no
-- byte of the buffer.
unfoldable pub line_text : Content → List (List ℕ) → List ℕ → List ℕ → Replay → List ℕ
line_text content expected text numbers r =
    told_text expected (names_after (left_of content (head_of r).counts) text r.names) (head_of r) (own_of content text numbers r)

-- and the counts after it
unfoldable pub line_counts : Content → List (List ℕ) → List ℕ → List ℕ → Replay → List ℕ
line_counts content expected text numbers r = told_counts expected (own_of content text numbers r)

-- The same counts with other numbers in the four places of the buffer: where the answers end, where the line starts, where what was
-- written before ends, and where the line's own answer starts.
abbrev pub elsewhere : ℕ → ℕ → ℕ → ℕ → List ℕ → List ℕ
elsewhere ends start written body counts = set (set (set (set counts 0 ends) 12 start) 13 written) 20 body
