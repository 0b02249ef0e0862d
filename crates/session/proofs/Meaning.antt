-- What bad lines leave, and lines that are too long. Assumes nothing.
use Prim.Native.Nat.{ℕ, ◌+◌, ◌-◌, ◌≤◌, ◌<◌}
use mathlib.Core.Bool.{Bool, true, false, cond}
use mathlib.Core.List.{List, ◌++◌}
use mathlib.Core.Path.{◌≡◌, refl}
use native.Mathlib.Omega.{arith}
use lib.Dec.{eqb}
use lib.ListN.{length, get_or, take, length-append}
use lib.Seq.{length-take-le}
use borrow.Author.Tests.{lt-ltb}
use Rattle.line.specs.Line.{content_length, line_reading, line_expected}
use Rattle.line.specs.declared.Content.{Content}
use Rattle.item_calls.specs.Lines.{call_line, timed_line, beside}
use Rattle.item_questions.specs.Answers.{question_line}
use Rattle.item_analysis.specs.Lines.{analysis_line}
use Rattle.answer_text.specs.Line.{line_left}
use Rattle.item_checks.specs.Fault.{is_fault, left_of}
use Rattle.item_checks.specs.Open.{is_item, named, opened}
use Rattle.item_checks.specs.Close.{expected_of}
use Rattle.session.specs.Line.{State, line_done, Replay, line_begun, content_answered, line_answered}

-- A line without a call leaves all as it is.
pub nothing-done : (numbers : List ℕ) (s : State) → line_done Content.Nothing numbers s ≡ s
unfolding line_done line_left call_line timed_line beside question_line analysis_line
nothing-done numbers s = refl

-- "A line that is none of these is no call: the model stays as it was": so do the user flash, the record and the probe table, and
-- nothing but the line's own answer and count is left of it.
pub bad-line-keeps : (content : Content) (numbers : List ℕ) (s : State) → is_fault content s.log.counts ≡ true
    → line_done (left_of content s.log.counts) numbers s ≡ s
unfolding left_of
bad-line-keeps content numbers s bad = rw bad (nothing-done numbers s)

-- ---- lines that are too long

-- A line of more than 1,000 bytes is bad, whatever they are: no byte of it makes a difference.
pub too_long : (text text' numbers : List ℕ) (r : Replay) → 1000 < content_length text → 1000 < content_length text'
    → line_answered text numbers r ≡ line_answered text' numbers r
unfolding line_answered content_answered line_begun line_reading line_expected expected_of opened left_of is_fault named is_item
too_long text text' numbers r long long' =
    rw (lt-ltb 1000 (content_length text) long, lt-ltb 1000 (content_length text') long')

-- Of a line's bytes one at most is a carriage return that does not count.
content-long : (text : List ℕ) → length text ≤ content_length text + 1
unfolding content_length
content-long text = go (eqb (get_or text (length text - 1) 0) 13)
  where
    go : (t : Bool) → length text ≤ cond t (length text - 1) (length text) + 1
    go true = omega arith
    go false = omega arith

-- So of a line that is held by its first 1,002 bytes the rest makes no difference, as `pieces-alike` of line_buffer asks.
pub held-alike : (start more numbers : List ℕ) (r : Replay) → 1002 ≤ length start
    → line_answered (take 1002 start ++ more) numbers r ≡ line_answered (start ++ more) numbers r
held-alike start more numbers r long =
    let first : length (take 1002 start) ≡ 1002 = length-take-le 1002 start long in
    too_long (take 1002 start ++ more) (start ++ more) numbers r
    (omega (arith, content-long (take 1002 start ++ more), length-append (take 1002 start) more, first))
    (omega (arith, content-long (start ++ more), length-append start more))
