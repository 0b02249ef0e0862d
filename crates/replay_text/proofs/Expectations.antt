-- The expectations of a text, those that differ, and the refusals that nothing announces. What stands in quotation marks is that of docs/ITEMS.md.
-- Assumes nothing.
use Prim.Native.Nat.{ℕ, ◌+◌, ◌≤◌, ◌<◌, min}
use mathlib.Core.Path.{◌≡◌, refl, sym, ap, ◌∙◌}
use mathlib.Core.Bool.{Bool, true, false, cond, false≢true}
use mathlib.Core.List.{List, [], ◌∷◌}
use native.Mathlib.Omega.{arith}
use lib.Dec.{eqb}
use lib.ListN.{length, get_or}
use lib.Seq.{get_or-set_other}
use borrow.Author.Tests.{eq-eqb, ne_eqb}
use Rattle.unit.proofs.Cases.{by-test}
use Rattle.numeral.specs.Place.{joined}
use Rattle.device.specs.declared.Model.{Model}
use Rattle.line.specs.declared.Content.{Content}
use Rattle.line_buffer.specs.Lines.{text_lines}
use Rattle.item_state.specs.Log.{added}
use Rattle.item_checks.specs.Close.{expected_of, begins_with, is_announced, is_not_bad}
use Rattle.line_text.specs.Text.{judged_counts, shown_answer}
use Rattle.replay_text.specs.Replay.{Page, first_page, last_page}
use Rattle.replay_text.specs.LastLine.{counts_of, read_on, line_own, is_bad, is_call_line, was_call, answered_no, words_compared, words_differ, marks, begins_so, marks_differ, answer_shown, expectations, differences, is_unannounced, over_lines, lines_that}
use Rattle.replay_text.proofs.Counts.{begun-alike, begun-refused, begun-before}
use Rattle.replay_text.proofs.Text.{own-left}
use Rattle.replay_text.proofs.Gains.{in_judged, in_own, in_closed, in_line, own-gains}
use Rattle.replay_text.proofs.Answered.{own-refused}
use Rattle.replay_text.proofs.BadLines.{own-bad}
use Rattle.replay_text.proofs.Below.{Below, text-counts-below}

-- ---- a line that is no `expect` has no words to compare

call-words : (content : Content) (numbers : List ℕ) (m : Model) → is_call_line content ≡ true → (words_compared content ≡ 0) × (words_differ content numbers m ≡ 0)
unfolding is_call_line words_compared words_differ
call-words Content.Nothing numbers m call = (refl, refl)
call-words Content.TooLong numbers m call = (refl, refl)
call-words Content.UnknownWord numbers m call = (refl, refl)
call-words Content.BadNumber numbers m call = (refl, refl)
call-words Content.WrongCount numbers m call = (refl, refl)
call-words Content.Item numbers m call = (refl, refl)
call-words (Content.Bus n) numbers m call = (refl, refl)
call-words (Content.BusOut size n) numbers m call = (refl, refl)
call-words (Content.Tick n) numbers m call = (refl, refl)
call-words (Content.Flight up down) numbers m call = (refl, refl)
call-words (Content.Temperature n) numbers m call = (refl, refl)
call-words Content.Int numbers m call = (refl, refl)
call-words Content.Awaited numbers m call = (refl, refl)
call-words Content.Regs numbers m call = (refl, refl)
call-words (Content.Expect a n) numbers m call = absurd (false≢true call)
call-words Content.Show numbers m call = (refl, refl)
call-words (Content.Set a n) numbers m call = (refl, refl)
call-words (Content.At t) numbers m call = (refl, refl)
call-words (Content.Stretch n) numbers m call = (refl, refl)
call-words Content.Frames numbers m call = (refl, refl)
call-words (Content.Probe n) numbers m call = (refl, refl)
call-words Content.Degrees numbers m call = (refl, refl)
call-words (Content.Record n) numbers m call = (refl, refl)
call-words (Content.Listing old first) numbers m call = (refl, refl)
call-words (Content.Quietest n) numbers m call = (refl, refl)

-- ---- behind the answer

module _ (m : ℕ) (line : List ℕ) (p : Page) (few : m < 18446744073709551615) (b : Below m p) where
  abbrev own : List ℕ
  own = (line_own line p).counts

  abbrev c : List ℕ
  c = counts_of p

  abbrev answer : List ℕ
  answer = shown_answer own (joined (line_own line p).texts)

  long : length c ≡ 22
  long = b.order.long

  -- What the line leaves of the places 4 and 6, and what was kept of them before it.
  six : get_or own 6 0 ≡ get_or c 6 0 + cond (is_bad line p) 1 0
  six =
      let more = (own-gains 6 (omega arith) (omega arith) line p long (b.order.low 6 (omega arith) (omega arith)) (omega (arith, b.order.numbers))).1 in
      more ∙ (ap (λ (n : ℕ). min (get_or c 6 0 + n) 18446744073709551615) (own-bad line p) ∙ one (is_bad line p))
    where
      one : (t : Bool) → min (get_or c 6 0 + cond t 1 0) 18446744073709551615 ≡ get_or c 6 0 + cond t 1 0
      one true = omega (arith, few, b.bad)
      one false = omega (arith, few, b.bad)

  four : get_or own 4 0 ≡ get_or c 4 0 + cond (answered_no line p) 1 0
  four =
      let more = (own-gains 4 (omega arith) (omega arith) line p long (b.order.low 4 (omega arith) (omega arith)) (omega (arith, b.order.numbers))).1 in
      more ∙ (ap (λ (n : ℕ). min (get_or c 4 0 + n) 18446744073709551615) (own-refused line p b.order) ∙ one (answered_no line p))
    where
      one : (t : Bool) → min (get_or c 4 0 + cond t 1 0) 18446744073709551615 ≡ get_or c 4 0 + cond t 1 0
      one true = omega (arith, few, b.refused)
      one false = omega (arith, few, b.refused)

  before-six : get_or own 18 0 ≡ get_or c 6 0
  before-six = own-left line p long 18 refl (λ e. omega arith) ∙ begun-before p.replay.names c long

  before-four : get_or own 17 0 ≡ get_or c 4 0
  before-four = own-left line p long 17 refl (λ e. omega arith) ∙ begun-refused p.replay.names c long

  -- "A bad line has no expectation"
  pub bad-none : is_bad line p ≡ true → is_not_bad own ≡ false
  bad-none bad =
      let more : get_or own 6 0 ≡ get_or c 6 0 + 1 = rw bad at six in
      ne_eqb (get_or own 6 0) (get_or own 18 0) (λ e. omega (arith, more, before-six, e))

  pub good-some : is_bad line p ≡ false → is_not_bad own ≡ true
  good-some good =
      let same : get_or own 6 0 ≡ get_or c 6 0 + 0 = rw good at six in
      eq-eqb (get_or own 6 0) (get_or own 18 0) (omega (arith, same, before-six))

  pub shown-is : answer ≡ answer_shown line p
  unfolding shown_answer
  shown-is =
      let same : get_or own 14 0 ≡ get_or c 14 0
      = own-left line p long 14 refl (λ e. omega arith) ∙ sym ((begun-alike p.replay.names c long).each 14 refl) in
      rw same

  -- ---- E and X

  marks-counted : in_closed 7 (expected_of line) own answer ≡ cond (is_bad line p) 0 (marks (expected_of line))
  unfolding in_closed in_judged
  marks-counted = go (expected_of line)
    where
      go : (expected : List (List ℕ)) → in_closed 7 expected own answer ≡ cond (is_bad line p) 0 (marks expected)
      go [] = by-test (is_bad line p) (λ bad. rw bad) (λ good. rw good)
      go (wanted ∷ others) = by-test (is_bad line p) (λ bad. rw (bad, bad-none bad)) (λ good. rw (good, good-some good))

  marks-differing : in_closed 8 (expected_of line) own answer ≡ cond (is_bad line p) 0 (marks_differ (expected_of line) (answer_shown line p))
  unfolding in_closed in_judged
  marks-differing = ap (in_closed 8 (expected_of line) own) shown-is ∙ go (expected_of line)
    where
      go : (expected : List (List ℕ)) → in_closed 8 expected own (answer_shown line p) ≡ cond (is_bad line p) 0 (marks_differ expected (answer_shown line p))
      go [] = by-test (is_bad line p) (λ bad. rw bad) (λ good. rw good)
      go (wanted ∷ others) = by-test (is_bad line p) (λ bad. rw (bad, bad-none bad)) (λ good. rw (good, good-some good) (omega arith))

  line-expectations : in_line 7 line p ≡ expectations line p
  unfolding in_line in_own expectations
  line-expectations =
      let read = read_on line p in
      rw marks-counted
      (by-test (is_bad line p) (λ bad. rw bad)
      (λ good.
      by-test (is_call_line read.content)
      (λ call. rw (good, call, (call-words read.content read.numbers p.replay.state.model call).0))
      (λ other. rw (good, other) (omega arith))))

  pub line-differences : in_line 8 line p ≡ differences line p
  unfolding in_line in_own differences
  line-differences =
      let read = read_on line p in
      rw marks-differing
      (by-test (is_bad line p) (λ bad. rw bad)
      (λ good.
      by-test (is_call_line read.content)
      (λ call. rw (good, call, (call-words read.content read.numbers p.replay.state.model call).1))
      (λ other. rw (good, other) (omega arith))))

  -- ---- U

  judged-left : (n : ℕ) → (n ≡ 7 → ⊥) → (n ≡ 8 → ⊥) → (expected : List (List ℕ)) (told : List ℕ) → get_or (judged_counts expected own told) n 0 ≡ get_or own n 0
  unfolding judged_counts added
  judged-left n seven eight [] told = refl
  judged-left n seven eight (wanted ∷ others) told = go (is_not_bad own) (begins_with wanted told)
    where
      go : (t u : Bool) → get_or (cond t (cond u (added own 7 1) (added (added own 7 1) 8 1)) own) n 0 ≡ get_or own n 0
      go true true = get_or-set_other own 7 n _ 0 seven
      go true false = get_or-set_other (added own 7 1) 8 n _ 0 eight ∙ get_or-set_other own 7 n _ 0 seven
      go false u = refl

  -- A refusal more than before the line.
  refused-more : (expected : List (List ℕ)) (told : List ℕ) → (answered : Bool) → answered_no line p ≡ answered
      → eqb (get_or (judged_counts expected own told) 4 0) (get_or (judged_counts expected own told) 17 0) ≡ cond answered false true
  refused-more expected told answered is =
      let now = judged-left 4 (λ e. omega arith) (λ e. omega arith) expected told in
      let then = judged-left 17 (λ e. omega arith) (λ e. omega arith) expected told in
      go answered (four ∙ ap (λ (t : Bool). get_or c 4 0 + cond t 1 0) is) now then
    where
      go : (t : Bool) → get_or own 4 0 ≡ get_or c 4 0 + cond t 1 0
          → get_or (judged_counts expected own told) 4 0 ≡ get_or own 4 0 → get_or (judged_counts expected own told) 17 0 ≡ get_or own 17 0
          → eqb (get_or (judged_counts expected own told) 4 0) (get_or (judged_counts expected own told) 17 0) ≡ cond t false true
      go true more now then = ne_eqb (get_or (judged_counts expected own told) 4 0) (get_or (judged_counts expected own told) 17 0) (λ e. omega (arith, more, now, then, before-four, e))
      go false same now then = eq-eqb (get_or (judged_counts expected own told) 4 0) (get_or (judged_counts expected own told) 17 0) (omega (arith, same, now, then, before-four))

  no-good : answered_no line p ≡ true → is_bad line p ≡ false
  unfolding answered_no was_call
  no-good refused = by-test (is_bad line p) (λ bad. absurd (false≢true (rw bad at refused))) (λ good. good)

  none-own : in_own 5 line p ≡ 0
  unfolding in_own
  none-own =
      by-test (is_bad line p) (λ bad. rw bad)
      (λ good. by-test (is_call_line (read_on line p).content) (λ call. rw (good, call)) (λ other. rw (good, other)))

  refusal-counted : in_closed 5 (expected_of line) own answer ≡ cond (is_unannounced line p) 1 0
  unfolding in_closed in_judged is_unannounced is_announced
  refusal-counted = ap (in_closed 5 (expected_of line) own) shown-is ∙ go (expected_of line)
    where
      go : (expected : List (List ℕ)) → in_closed 5 expected own (answer_shown line p)
          ≡ cond (cond (answered_no line p) (cond (begins_so expected (answer_shown line p)) false true) false) 1 0
      go [] =
          by-test (answered_no line p) (λ refused. rw (refused-more [] (answer_shown line p) true refused, refused)) (λ other. rw (refused-more [] (answer_shown line p) false other, other))
      go (wanted ∷ others) =
          by-test (answered_no line p)
          (λ refused. rw (refused-more (wanted ∷ others) (answer_shown line p) true refused, refused, good-some (no-good refused)) (told (begins_with wanted (answer_shown line p))))
          (λ other. rw (refused-more (wanted ∷ others) (answer_shown line p) false other, other) (none (is_not_bad own) (begins_with wanted (answer_shown line p))))
        where
          told : (t : Bool) → ◌≡◌ {A = ℕ} (0 + cond t 0 1) (cond (cond t false true) 1 0)
          told true = refl
          told false = refl

          none : (t u : Bool) → ◌≡◌ {A = ℕ} (cond t 0 0 + cond (cond t u false) 0 0) 0
          none true true = refl
          none true false = refl
          none false u = refl

  pub line-unannounced : in_line 5 line p ≡ cond (is_unannounced line p) 1 0
  unfolding in_line
  line-unannounced = rw (none-own, refusal-counted) (omega arith)

-- "E the words of `expect` lines and the `=>`": count 7 of a text of at most 2⁶⁴ − 1 lines is their number.
pub text-expectations : (path : List ℕ) (check : Bool) (text : List ℕ) → length (text_lines text) ≤ 18446744073709551615
    → get_or (counts_of (last_page path check text)) 7 0 ≡ min (over_lines expectations (text_lines text) (first_page path check)) 18446744073709551615
text-expectations = text-counts-below 7 (omega arith) (omega arith) expectations line-expectations

-- "X those of E that differ": count 8.
pub text-differences : (path : List ℕ) (check : Bool) (text : List ℕ) → length (text_lines text) ≤ 18446744073709551615
    → get_or (counts_of (last_page path check text)) 8 0 ≡ min (over_lines differences (text_lines text) (first_page path check)) 18446744073709551615
text-differences = text-counts-below 8 (omega arith) (omega arith) differences line-differences

-- "U those of R that are not announced": count 5.
pub text-unannounced : (path : List ℕ) (check : Bool) (text : List ℕ) → length (text_lines text) ≤ 18446744073709551615
    → get_or (counts_of (last_page path check text)) 5 0 ≡ min (lines_that is_unannounced (text_lines text) (first_page path check)) 18446744073709551615
text-unannounced = text-counts-below 5 (omega arith) (omega arith) (λ line p. cond (is_unannounced line p) 1 0) line-unannounced
