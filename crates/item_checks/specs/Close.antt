-- What is done when a line is answered: what the line expects of its answer, and what of it a check writes. What stands in
-- quotation marks is that of docs/ITEMS.md. Assumes nothing.
--
-- The counts by their places: 0 where the answers end, 4 the refusals, 5 those that are not announced, 6 the bad lines, 7 the
-- expectations, 8 those that differ, 12 where what is written of the line starts, 14 not 0 in a check, 15 the end of the item's name,
-- 16 that of the file's, 20 where the line's own answer starts. 17, 18 and 19 are 4, 6 and all that needs a look, before the line.
use Rattle.std.specs.Prelude.{ℕ, ◌+◌, min, Bool, true, false, cond, List, [], ◌∷◌, ◌++◌, map, eqb, leb, length, get_or, set, take, drop}
use Rattle.numeral.specs.Place.{Placed, put_each, joined}
use Rattle.line.specs.Words.{words}
use Rattle.line.specs.Line.{content_length, line_expected}
use Rattle.line.specs.Spaced.{spaced}
use Rattle.wording.specs.Wording.{Texts, line_feed, expected, left_out, item_name}
use Rattle.item_state.specs.Log.{Log, added, said}

-- ---- the answer as text

-- A line's words, parted by one blank. One carriage return at its end is no part of them.
unfoldable pub line_words : List ℕ → Texts
line_words text = spaced (words (take (content_length text) text))

-- The line's own answer, behind its head in a check.
abbrev pub answer : Log → List ℕ
answer l = drop (get_or l.counts 20 0) (take (get_or l.counts 0 0) l.answers)

-- The place of the first byte c, or the end.
unfoldable pub place_of : ℕ → List ℕ → ℕ
place_of c [] = 0
place_of c (b ∷ bs) = cond (eqb b c) 0 (place_of c bs + 1)

-- The end of the answer's first line, or that of the answers.
unfoldable pub first_end : Log → ℕ
first_end l = min (get_or l.counts 20 0 + place_of 10 (answer l)) (get_or l.counts 0 0)

-- ---- "=>" and the words that its answer begins with

-- Whether bytes start with those wanted, and no word goes on behind them: a byte above the blank goes on.
unfoldable pub starts_with : List ℕ → List ℕ → Bool
starts_with [] [] = true
starts_with [] (c ∷ cs) = leb c 32
starts_with (w ∷ ws) [] = false
starts_with (w ∷ ws) (c ∷ cs) = cond (eqb c w) (starts_with ws cs) false

-- What stands behind the first blank: "the first word of the answer left out"
abbrev pub later_part : List ℕ → List ℕ
later_part bytes = drop 1 (drop (place_of 32 bytes) bytes)

-- "the words that its answer begins with"; of a `=>` without words "any answer will do"
unfoldable pub begins_with : List ℕ → List ℕ → Bool
begins_with wanted bytes = cond (eqb (length wanted) 0) true (starts_with wanted (later_part bytes))

-- The words that are expected, parted by one blank. A line has at most 1,000 bytes; of more than 1,024, no more are looked at.
unfoldable pub wanted_in : List ℕ → List ℕ
wanted_in text = joined (line_words (take 1024 text))

-- ---- "What differs stands behind ` expected ` in the answer's first line."

-- The text t within the answers: behind the first line, before the rest of the answer.
unfoldable pub within : List ℕ → Log → List ℕ
within t l =
    take (first_end l) l.answers
    ++ (t ++ (drop (first_end l) (take (get_or l.counts 0 0) l.answers) ++ drop (get_or l.counts 0 0 + length t) l.answers))

-- Where the answers have no room for it, it is put as any text is that has none.
unfoldable pub inserted : List ℕ → Log → Log
inserted wanted l =
    let t = joined (expected wanted) in
    let end = get_or l.counts 0 0 + length t in
    cond (leb end (length l.answers)) record { counts = set l.counts 0 end; answers = within t l }
    (said (expected wanted) l)

-- "E the words of `expect` lines and the `=>`, X those of E that differ"
abbrev pub one_more : ℕ → Log → Log
one_more place l = record { counts = added l.counts place 1; answers = l.answers }

unfoldable pub compared : List ℕ → Log → Log
compared wanted l = cond (begins_with wanted (answer l)) (one_more 7 l) (inserted wanted (one_more 8 (one_more 7 l)))

-- The words that a line expects, as the one text of a list; a list without a text where it expects none. They stand from the place e of
-- the line on; 0 is no place.
unfoldable pub expected_from : List ℕ → ℕ → List (List ℕ)
expected_from text e = cond (eqb e 0) [] (wanted_in (drop e text) ∷ [])

-- the same of the whole line: "`=>` and the words that its answer begins with"
unfoldable pub expected_of : List ℕ → List (List ℕ)
expected_of text = map (λ (ws : List (List ℕ)). joined (spaced ws)) (line_expected text)

-- "A bad line has no expectation": there are as many bad lines as before this one.
abbrev pub is_not_bad : List ℕ → Bool
is_not_bad counts = eqb (get_or counts 6 0) (get_or counts 18 0)

unfoldable pub judged_log : List (List ℕ) → Log → Log
judged_log [] l = l
judged_log (wanted ∷ others) l = cond (is_not_bad l.counts) (compared wanted l) l

-- ---- refusals that nothing announces

-- Whether the line expects what it is answered.
unfoldable pub is_announced : List (List ℕ) → List ℕ → List ℕ → Bool
is_announced [] counts answer = false
is_announced (wanted ∷ others) counts answer = cond (is_not_bad counts) (begins_with wanted answer) false

-- "U those of R that are not announced": a refusal more than before the line
unfoldable pub refusal_counted : Bool → List ℕ → List ℕ
refusal_counted told counts = cond told counts (cond (eqb (get_or counts 4 0) (get_or counts 17 0)) counts (added counts 5 1))

-- ---- "of an answer of more than 2,051 bytes, its line feeds among them, the first 2,048 and ` ..`"

unfoldable pub briefly : List ℕ → List ℕ
briefly answer = cond (leb (length answer) 2051) answer (take 2048 answer ++ joined left_out)

-- the first bytes of the answer in the buffer, and ` ..` behind them
unfoldable pub cut_off : Log → Log
cut_off l =
    let p = put_each l.answers (min (get_or l.counts 20 0 + 2048) 18446744073709551615) left_out in
    record { counts = set l.counts 0 p.next; answers = p.bytes }

-- In a check no more than that is kept of an answer.
unfoldable pub kept_briefly : Log → Log
kept_briefly l =
    cond (eqb (get_or l.counts 14 0) 0) l
    (cond (leb (get_or l.counts 0 0) (min (get_or l.counts 20 0 + 2051) 18446744073709551615)) l (cut_off l))

-- ---- "`--check` prints nothing of an item but what needs a look"

-- What needs a look: bad lines, expectations that differ, refusals that nothing announces; the largest number stands for all above it.
unfoldable pub trouble : List ℕ → ℕ
trouble counts = min (min (get_or counts 6 0 + get_or counts 8 0) 18446744073709551615 + get_or counts 5 0) 18446744073709551615

-- "with the item's name", which stands among the names from the place 4,096 on, if there is one
unfoldable pub tail : List ℕ → List ℕ → Texts
tail names counts =
    cond (eqb (get_or counts 15 0) 0) (line_feed ∷ []) (item_name (drop 4096 (take (get_or counts 15 0) names)))

-- of an answer that needs a look, its first line
unfoldable pub shortened : List ℕ → Log → Log
shortened names l =
    let p = put_each l.answers (first_end l) (tail names l.counts) in
    record { counts = set l.counts 0 p.next; answers = p.bytes }

-- nothing of the line: the answers end where it started
abbrev pub dropped : Log → Log
dropped l = record { counts = set l.counts 0 (get_or l.counts 12 0); answers = l.answers }

unfoldable pub looked : List ℕ → Log → Log
looked names l = cond (eqb (trouble l.counts) (get_or l.counts 19 0)) (dropped l) (shortened names l)

-- ---- all of it

unfoldable pub closed : List (List ℕ) → List ℕ → Log → Log
closed expected names l =
    let j = judged_log expected l in
    let u : Log = record { counts = refusal_counted (is_announced expected l.counts (answer l)) j.counts; answers = j.answers } in
    cond (eqb (get_or u.counts 14 0) 0) u (looked names u)
