-- What a line adds to what is written, by its number, in a check and outside one. Assumes nothing.
use Prim.Native.Nat.{ℕ, ◌+◌, ◌≤◌, ◌<◌, min}
use mathlib.Core.Path.{◌≡◌, refl, sym, ap, ◌∙◌}
use mathlib.Core.Bool.{Bool, true, false, cond}
use mathlib.Core.List.{List, [], ◌∷◌}
use native.Mathlib.Omega.{arith}
use lib.Dec.{eqb}
use lib.ListN.{length, get_or, take, length-take}
use borrow.Author.Tests.{eq-eqb, ne_eqb, eqb-true}
use Rattle.unit.proofs.Cases.{by-test, by_eqb}
use Rattle.numeral.specs.Place.{joined}
use Rattle.device.specs.declared.Model.{Model}
use Rattle.line.specs.declared.Content.{Content}
use Rattle.wording.specs.Wording.{place}
use Rattle.item_state.specs.Told.{read_word}
use Rattle.item_questions.specs.Answers.{next, differing}
use Rattle.item_checks.specs.Close.{expected_of, begins_with, is_not_bad, trouble, tail}
use Rattle.line_text.specs.Text.{head_of, judged_text, closed_counts, looked_text, closed_text, shown_answer, told_text, told_counts}
use Rattle.line_text.proofs.Apart.{count-elsewhere}
use Rattle.replay_text.specs.Replay.{Page, content_page, page_line}
use Rattle.replay_text.specs.LastLine.{counts_of, read_on, line_own, is_bad, is_unannounced, words_differ, marks_differ, answer_shown, differences}
use Rattle.replay_text.specs.Numbered.{told_as, with_expected, shown_as, needs_look, placed_as, added_as}
use Rattle.replay_text.proofs.Numbers.{reading-alike}
use Rattle.replay_text.proofs.Alike.{is_counted}
use Rattle.replay_text.proofs.Counts.{begun-alike, no-head, head-in-check}
use Rattle.replay_text.proofs.Bad.{content_adds, line_adds, bad-line-own}
use Rattle.replay_text.proofs.Text.{own-left, closed-keeps}
use Rattle.replay_text.proofs.Gains.{in_line, own_alone}
use Rattle.replay_text.proofs.Order.{line-adds-to}
use Rattle.replay_text.proofs.BadLines.{own-bad}
use Rattle.replay_text.proofs.Below.{Below, at_most_one}
use Rattle.replay_text.proofs.Expectations.{bad-none, good-some, shown-is, line-differences, line-unannounced}

-- ---- how many differences a line has at most

no_more : (t : Bool) → cond t 0 1 ≤ 1
no_more true = omega arith
no_more false = omega arith

words-few : (m : Model) (a : ℕ) (ws : List ℕ) → differing m a ws ≤ length ws
unfolding differing
words-few m a [] = omega arith
words-few m a (w ∷ ws) = omega (arith, words-few m (next a) ws, no_more (eqb (read_word m a) w))

content-few : (content : Content) (numbers : List ℕ) (m : Model) → words_differ content numbers m ≤ length numbers
unfolding words_differ
content-few Content.Nothing numbers m = omega arith
content-few Content.TooLong numbers m = omega arith
content-few Content.UnknownWord numbers m = omega arith
content-few Content.BadNumber numbers m = omega arith
content-few Content.WrongCount numbers m = omega arith
content-few Content.Item numbers m = omega arith
content-few (Content.Bus n) numbers m = omega arith
content-few (Content.BusOut size n) numbers m = omega arith
content-few (Content.Tick n) numbers m = omega arith
content-few (Content.Flight up down) numbers m = omega arith
content-few (Content.Temperature n) numbers m = omega arith
content-few Content.Int numbers m = omega arith
content-few Content.Awaited numbers m = omega arith
content-few Content.Regs numbers m = omega arith
content-few (Content.Expect a n) numbers m = omega (arith, words-few m a (take n numbers), length-take n numbers)
content-few Content.Show numbers m = omega arith
content-few (Content.Set a n) numbers m = omega arith
content-few (Content.At t) numbers m = omega arith
content-few (Content.Stretch n) numbers m = omega arith
content-few Content.Frames numbers m = omega arith
content-few (Content.Probe n) numbers m = omega arith
content-few Content.Degrees numbers m = omega arith
content-few (Content.Record n) numbers m = omega arith
content-few (Content.Listing old first) numbers m = omega arith
content-few (Content.Quietest n) numbers m = omega arith

marks-few : (expected : List (List ℕ)) (answer : List ℕ) → marks_differ expected answer ≤ 1
marks-few [] answer = omega arith
marks-few (wanted ∷ others) answer = no_more (begins_with wanted answer)

pub differences-few : (line : List ℕ) (p : Page) → length p.numbers ≡ 512 → differences line p ≤ 513
unfolding differences
differences-few line p long =
    let read = read_on line p in
    let words = content-few read.content read.numbers p.replay.state.model in
    let kept = (reading-alike p.numbers p.numbers refl line).kept in
    let marked = marks-few (expected_of line) (answer_shown line p) in
    by-test (is_bad line p) (λ bad. rw bad (omega arith)) (λ good. rw good (omega (arith, words, kept, long, marked)))

-- ---- what needs a look

-- It is more than before exactly where one of the three is.
more-exactly : (bad unannounced : Bool) (d before : ℕ)
    → eqb (before + (cond bad 1 0 + (cond unannounced 1 0 + d))) before
    ≡ cond (cond bad true (cond unannounced true (cond (eqb d 0) false true))) false true
more-exactly true true d before = ne_eqb (before + (1 + (1 + d))) before (λ e. omega (arith, e))
more-exactly true false d before = ne_eqb (before + (1 + (0 + d))) before (λ e. omega (arith, e))
more-exactly false true d before = ne_eqb (before + (0 + (1 + d))) before (λ e. omega (arith, e))
more-exactly false false d before =
    by_eqb d 0 (λ none e. rw e (eq-eqb (before + (0 + (0 + d))) before (omega (arith, none))))
    (λ some e. rw e (ne_eqb (before + (0 + (0 + d))) before (λ same. some (omega (arith, same)))))

expected-told : (expected : List (List ℕ)) (c answer : List ℕ) → is_not_bad c ≡ true → judged_text expected c answer ≡ with_expected expected answer
unfolding judged_text with_expected
expected-told [] c answer compared = refl
expected-told (wanted ∷ others) c answer compared = rw compared

nothing-expected : (expected : List (List ℕ)) (c answer : List ℕ) → is_not_bad c ≡ false → judged_text expected c answer ≡ answer
unfolding judged_text
nothing-expected [] c answer none = refl
nothing-expected (wanted ∷ others) c answer none = rw none

turned : (t : Bool) (x : List ℕ) → cond (cond t false true) [] x ≡ cond t x []
turned true x = refl
turned false x = refl

module _ (m : ℕ) (line : List ℕ) (p : Page) (few : m < 18446744073709551615) (b : Below m p) (lines : get_or (counts_of p) 2 0 < 18446744073709551615) where
  abbrev c : List ℕ
  c = counts_of p

  abbrev names : List ℕ
  names = p.replay.names

  abbrev number : ℕ
  number = get_or c 2 0 + 1

  abbrev own : List ℕ
  own = (line_own line p).counts

  abbrev answer : List ℕ
  answer = shown_answer own (joined (line_own line p).texts)

  abbrev closed : List ℕ
  closed = closed_counts (expected_of line) own answer

  long : length c ≡ 22
  long = b.order.long

  -- A line tells what it tells by its number, in a check too.
  pub own-told : (line_own line p).texts ≡ told_as number line p
  unfolding told_as
  own-told =
      by-test (is_bad line p) (λ bad. rw bad (bad-line-own line p record { long = long; few = omega (arith, b.bad, few) } bad lines)) (λ good. rw good)

  judged-is : judged_text (expected_of line) own answer ≡ shown_as number line p
  unfolding shown_as
  judged-is =
      let shown : answer ≡ shown_answer c (joined (told_as number line p))
      = shown-is m line p few b ∙ ap (λ (t : List (List ℕ)). shown_answer c (joined t)) own-told in
      ap (judged_text (expected_of line) own) shown
      ∙ by-test (is_bad line p) (λ bad. rw bad (nothing-expected (expected_of line) own _ (bad-none m line p few b bad)))
      (λ good. rw good (expected-told (expected_of line) own _ (good-some m line p few b good)))

  closed-left : (n : ℕ) → is_counted n ≡ false → (n ≡ 6 → ⊥) → get_or closed n 0 ≡ get_or (head_of p.replay).counts n 0
  closed-left n other apart =
      closed-keeps n (get_or (head_of p.replay).counts n 0) other (expected_of line) own answer (own-left line p long n other apart)

  still : get_or closed 14 0 ≡ get_or c 14 0
  still = closed-left 14 refl (λ e. omega arith) ∙ sym ((begun-alike names c long).each 14 refl)

  -- The counts after the line are these, but for the places of the buffer.
  closed_is : (n : ℕ) → (n ≡ 0 → ⊥) → (n ≡ 12 → ⊥) → (n ≡ 13 → ⊥) → (n ≡ 20 → ⊥) → get_or (counts_of (page_line line p)) n 0 ≡ get_or closed n 0
  unfolding page_line content_page told_counts line_own
  closed_is n w x y z = count-elsewhere 0 0 0 0 closed n w x y z

  counted : (n : ℕ) → 2 < n → n < 9 → get_or closed n 0 ≡ min (get_or c n 0 + in_line n line p) 18446744073709551615
  counted n some low =
      sym (closed_is n (λ e. omega (arith, some, e)) (λ e. omega (arith, low, e)) (λ e. omega (arith, low, e)) (λ e. omega (arith, low, e)))
      ∙ (line-adds-to n some low line p b.order).1

  abbrev after : List ℕ
  after = (page_line line p).replay.names

  abbrev text : List ℕ
  text = closed_text after closed (joined (head_of p.replay).texts) (judged_text (expected_of line) own answer)

  adds-is : line_adds line p ≡ text
  unfolding line_adds content_adds told_text line_own page_line content_page
  adds-is = refl

  text-outside : eqb (get_or c 14 0) 0 ≡ true → text ≡ added_as number line p
  unfolding closed_text added_as joined
  text-outside outside =
      let e : eqb (get_or closed 14 0) 0 ≡ true = ap (λ (n : ℕ). eqb n 0) still ∙ outside in
      rw (e, no-head names c long (eqb-true (get_or c 14 0) 0 outside), judged-is, outside)

  -- In a check.
  module _ (inside : eqb (get_or c 14 0) 0 ≡ false) where
    module _ (room : get_or c 5 0 + get_or c 6 0 + get_or c 8 0 + differences line p + 2 ≤ 18446744073709551615) where
      abbrev troubles : ℕ
      troubles = get_or c 5 0 + get_or c 6 0 + get_or c 8 0

      trouble-before : get_or closed 19 0 ≡ troubles
      unfolding trouble
      trouble-before = closed-left 19 refl (λ e. omega arith) ∙ ((head-in-check names c long inside).1 ∙ omega (arith, room))

      trouble-now : trouble closed ≡ troubles + (cond (is_bad line p) 1 0 + (cond (is_unannounced line p) 1 0 + differences line p))
      unfolding trouble
      trouble-now =
          let five = counted 5 (omega arith) (omega arith) in
          let six = counted 6 (omega arith) (omega arith) in
          let eight = counted 8 (omega arith) (omega arith) in
          let unannounced = line-unannounced m line p few b in
          let bad = own_alone 6 refl refl refl line p ∙ own-bad line p in
          let differ = line-differences m line p few b in
          omega (arith, room, five, six, eight, unannounced, bad, differ, at_most_one (is_bad line p), at_most_one (is_unannounced line p))

      look_is : eqb (trouble closed) (get_or closed 19 0) ≡ cond (needs_look line p) false true
      unfolding needs_look
      look_is = rw (trouble-now, trouble-before) (more-exactly (is_bad line p) (is_unannounced line p) (differences line p) troubles)

    head-is : (head_of p.replay).texts ≡ place (take (get_or c 16 0) names) number
    head-is =
        let e : min (get_or c 2 0 + 1) 18446744073709551615 ≡ number = omega (arith, lines) in
        (head-in-check names c long inside).0 ∙ ap (place (take (get_or c 16 0) names)) e

    tail-is : tail (page_line line p).replay.names closed ≡ tail (page_line line p).replay.names (counts_of (page_line line p))
    unfolding tail
    tail-is = rw (closed_is 15 (λ e. omega arith) (λ e. omega arith) (λ e. omega arith) (λ e. omega arith))

    text-inside : get_or c 5 0 + get_or c 6 0 + get_or c 8 0 + differences line p + 2 ≤ 18446744073709551615 → text ≡ added_as number line p
    unfolding closed_text looked_text added_as placed_as
    text-inside room =
        let e : eqb (get_or closed 14 0) 0 ≡ false = ap (λ (n : ℕ). eqb n 0) still ∙ inside in
        rw (e, inside, head-is, judged-is, tail-is, look_is room) (turned (needs_look line p) _)

  -- A line adds to what is written what it adds by its number; in a check, where what needs a look is not cut off.
  pub line-added-as : (eqb (get_or c 14 0) 0 ≡ false → get_or c 5 0 + get_or c 6 0 + get_or c 8 0 + differences line p + 2 ≤ 18446744073709551615)
      → line_adds line p ≡ added_as number line p
  line-added-as room =
      adds-is ∙ by-test (eqb (get_or c 14 0) 0) (λ outside. text-outside outside) (λ inside. text-inside inside (room inside))
