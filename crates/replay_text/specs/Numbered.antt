-- What the lines of a text tell and add to what is written, by the numbers that they have in it. Each line is judged by the `Page` that the
-- lines before it left. What stands in quotation marks is that of docs/ITEMS.md. Assumes nothing.
use Rattle.std.specs.Prelude.{ℕ, ◌+◌, Bool, true, false, cond, List, [], ◌∷◌, ◌++◌, eqb, get_or, take}
use Rattle.numeral.specs.Place.{joined}
use Rattle.wording.specs.Wording.{Texts, fault, place}
use Rattle.item_checks.specs.Close.{place_of, expected_of, begins_with, tail}
use Rattle.line_text.specs.Text.{shown_answer, differing_text}
use Rattle.replay_text.specs.Replay.{Page, page_line}
use Rattle.replay_text.specs.LastLine.{counts_of, read_on, line_own, is_bad, is_unannounced, differences}

-- ---- a line

-- What a line of this number tells of itself: of a bad one, "the answer is `line L: ` and one of six texts, L being the line's number". No
-- other line's answer has a number of a line in it.
unfoldable pub told_as : ℕ → List ℕ → Page → Texts
told_as number line p = cond (is_bad line p) (fault number (read_on line p).content) (line_own line p).texts

-- "What differs stands behind ` expected ` in the answer's first line."
unfoldable pub with_expected : List (List ℕ) → List ℕ → List ℕ
with_expected [] answer = answer
with_expected (wanted ∷ others) answer = cond (begins_with wanted answer) answer (differing_text wanted answer)

-- The answer with what is expected; in a check, a long one briefly; "A bad line has no expectation"
unfoldable pub shown_as : ℕ → List ℕ → Page → List ℕ
shown_as number line p =
    let answer = shown_answer (counts_of p) (joined (told_as number line p)) in cond (is_bad line p) answer (with_expected (expected_of line) answer)

-- "what needs a look": a bad line, a refusal that is not announced, or what differs
unfoldable pub needs_look : List ℕ → Page → Bool
needs_look line p = cond (is_bad line p) true (cond (is_unannounced line p) true (cond (eqb (differences line p) 0) false true))

-- "each as `FILE:LINE: ANSWER` with the item's name": of the answer its first line
unfoldable pub placed_as : ℕ → List ℕ → Page → List ℕ
placed_as number line p =
    let answer = shown_as number line p in
    let after = page_line line p in
    joined (place (take (get_or (counts_of p) 16 0) p.replay.names) number)
    ++ (take (place_of 10 answer) answer ++ joined (tail after.replay.names (counts_of after)))

-- What a line of this number adds to what is written: outside a check its answer, in a check "nothing of an item but what needs a look"
unfoldable pub added_as : ℕ → List ℕ → Page → List ℕ
added_as number line p =
    cond (eqb (get_or (counts_of p) 14 0) 0) (shown_as number line p) (cond (needs_look line p) (placed_as number line p) [])

-- ---- lines

-- the same of lines, of which the first has this number
unfoldable pub all_added_as : ℕ → List (List ℕ) → Page → List ℕ
all_added_as number [] p = []
all_added_as number (l ∷ ls) p = added_as number l p ++ all_added_as (number + 1) ls (page_line l p)
