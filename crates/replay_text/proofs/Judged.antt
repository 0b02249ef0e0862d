-- `=>` over a line of a text: it is as expected exactly where the words of the line's answer, the first left out, begin with those behind the
-- `=>`. What stands in quotation marks is that of docs/ITEMS.md. Assumes nothing.
use Prim.Native.Nat.{ℕ, ◌≤◌}
use mathlib.Core.Bool.{Bool, true, false, cond, false≢true, true≢false}
use mathlib.Core.List.{List, [], ◌∷◌}
use mathlib.Core.Logic.{◌↔◌, ◌⊎◌, ⊎_elim}
use mathlib.Core.Path.{◌≡◌, refl, sym, subst, ◌∙◌}
use native.Mathlib.Omega.{arith}
use lib.Dec.{eqb}
use lib.ListN.{length, get_or, take}
use borrow.Author.Tests.{eq-eqb, le-leb}
use Rattle.unit.proofs.Cases.{by-test, refuted}
use Rattle.numeral.specs.Ascii.{ascii}
use Rattle.numeral.specs.Place.{joined}
use Rattle.device.specs.declared.Model.{Model}
use Rattle.line.specs.declared.Content.{Content}
use Rattle.line.specs.Line.{line_expected}
use Rattle.line.specs.Spaced.{spaced}
use Rattle.line_buffer.specs.Lines.{each_line}
use Rattle.item_checks.specs.Fault.{is_fault, left_of}
use Rattle.item_checks.specs.Open.{is_item}
use Rattle.item_checks.specs.Close.{expected_of, begins_with, briefly}
use Rattle.item_checks.proofs.Answers.{NoFeed}
use Rattle.session.specs.Ends.{counts_begun}
use Rattle.line_text.specs.Text.{fault_told, item_told, head_of, shown_answer}
use Rattle.replay_text.specs.Replay.{tick_lines, told_by, opening, own_whole, Page, page_line, first_page}
use Rattle.replay_text.specs.LastLine.{counts_of, read_on, line_own, is_bad, answered_no, words_differ, begins_so, answer_shown, differences, is_unannounced}
use Rattle.replay_text.proofs.Reading.{is_ticks}
use Rattle.replay_text.proofs.Numbers.{reading-alike}
use Rattle.replay_text.proofs.Counts.{begun-fault}
use Rattle.replay_text.proofs.Order.{InOrder, order-first, order-lines}
use Rattle.replay_text.proofs.Singly.{tick-line-singly, at-line-singly}
use Rattle.replay_text.proofs.Asked.{check-lines}
use Rattle.replay_text.proofs.FirstLine.{visible, later_words, FirstLine, begins-words, line-apart}
use Rattle.replay_text.proofs.Carried.{is_carried, line-carried}
use Rattle.replay_text.proofs.Shapes.{ticks-line, is_judged, line-shape}

-- "any line but `item`, `show` and `expect` may end with `=>`": those of them that have an answer
abbrev pub may_carry : Content → Bool
may_carry content = cond (is_ticks content) true (is_judged content)

-- such a line is no `item`, and is answered as a whole
plain : (content : Content) (c : List ℕ) → is_judged content ≡ true → (is_item content ≡ false) × (tick_lines content c ≡ [])
unfolding is_judged is_item tick_lines
plain Content.Nothing c may = absurd (false≢true may)
plain Content.TooLong c may = absurd (false≢true may)
plain Content.UnknownWord c may = absurd (false≢true may)
plain Content.BadNumber c may = absurd (false≢true may)
plain Content.WrongCount c may = absurd (false≢true may)
plain Content.Item c may = absurd (false≢true may)
plain (Content.Bus n) c may = (refl, refl)
plain (Content.BusOut size n) c may = (refl, refl)
plain (Content.Tick n) c may = absurd (false≢true may)
plain (Content.Flight up down) c may = (refl, refl)
plain (Content.Temperature n) c may = (refl, refl)
plain Content.Int c may = (refl, refl)
plain Content.Awaited c may = (refl, refl)
plain Content.Regs c may = (refl, refl)
plain (Content.Expect a n) c may = absurd (false≢true may)
plain Content.Show c may = absurd (false≢true may)
plain (Content.Set a n) c may = (refl, refl)
plain (Content.At t) c may = absurd (false≢true may)
plain (Content.Stretch n) c may = (refl, refl)
plain Content.Frames c may = (refl, refl)
plain (Content.Probe n) c may = (refl, refl)
plain Content.Degrees c may = (refl, refl)
plain (Content.Record n) c may = (refl, refl)
plain (Content.Listing old first) c may = (refl, refl)
plain (Content.Quietest n) c may = (refl, refl)

-- it compares no words of registers
no_words : (content : Content) (numbers : List ℕ) (m : Model) → may_carry content ≡ true → words_differ content numbers m ≡ 0
unfolding is_ticks is_judged words_differ
no_words Content.Nothing numbers m may = refl
no_words Content.TooLong numbers m may = refl
no_words Content.UnknownWord numbers m may = refl
no_words Content.BadNumber numbers m may = refl
no_words Content.WrongCount numbers m may = refl
no_words Content.Item numbers m may = refl
no_words (Content.Bus n) numbers m may = refl
no_words (Content.BusOut size n) numbers m may = refl
no_words (Content.Tick n) numbers m may = refl
no_words (Content.Flight up down) numbers m may = refl
no_words (Content.Temperature n) numbers m may = refl
no_words Content.Int numbers m may = refl
no_words Content.Awaited numbers m may = refl
no_words Content.Regs numbers m may = refl
no_words (Content.Expect a n) numbers m may = absurd (false≢true may)
no_words Content.Show numbers m may = refl
no_words (Content.Set a n) numbers m may = refl
no_words (Content.At t) numbers m may = refl
no_words (Content.Stretch n) numbers m may = refl
no_words Content.Frames numbers m may = refl
no_words (Content.Probe n) numbers m may = refl
no_words Content.Degrees numbers m may = refl
no_words (Content.Record n) numbers m may = refl
no_words (Content.Listing old first) numbers m may = refl
no_words (Content.Quietest n) numbers m may = refl

-- A line that has `=>` and is not bad may carry it.
carried-may : (content : Content) (c : List ℕ) → is_carried content ≡ true → is_fault content c ≡ false → may_carry content ≡ true
unfolding is_carried is_fault is_ticks is_judged
carried-may Content.Nothing c carried good = absurd (false≢true carried)
carried-may Content.TooLong c carried good = absurd (false≢true carried)
carried-may Content.UnknownWord c carried good = absurd (true≢false good)
carried-may Content.BadNumber c carried good = absurd (true≢false good)
carried-may Content.WrongCount c carried good = absurd (true≢false good)
carried-may Content.Item c carried good = absurd (false≢true carried)
carried-may (Content.Bus n) c carried good = refl
carried-may (Content.BusOut size n) c carried good = refl
carried-may (Content.Tick n) c carried good = refl
carried-may (Content.Flight up down) c carried good = refl
carried-may (Content.Temperature n) c carried good = refl
carried-may Content.Int c carried good = refl
carried-may Content.Awaited c carried good = refl
carried-may Content.Regs c carried good = refl
carried-may (Content.Expect a n) c carried good = absurd (false≢true carried)
carried-may Content.Show c carried good = absurd (false≢true carried)
carried-may (Content.Set a n) c carried good = refl
carried-may (Content.At t) c carried good = refl
carried-may (Content.Stretch n) c carried good = refl
carried-may Content.Frames c carried good = refl
carried-may (Content.Probe n) c carried good = refl
carried-may Content.Degrees c carried good = refl
carried-may (Content.Record n) c carried good = refl
carried-may (Content.Listing old first) c carried good = refl
carried-may (Content.Quietest n) c carried good = refl

ticks-cases : (P : Content → Type 0) → ((n : ℕ) → P (Content.Tick n)) → ((t : ℕ) → P (Content.At t)) → (content : Content) → is_ticks content ≡ true → P content
unfolding is_ticks
ticks-cases P one other Content.Nothing is = absurd (false≢true is)
ticks-cases P one other Content.TooLong is = absurd (false≢true is)
ticks-cases P one other Content.UnknownWord is = absurd (false≢true is)
ticks-cases P one other Content.BadNumber is = absurd (false≢true is)
ticks-cases P one other Content.WrongCount is = absurd (false≢true is)
ticks-cases P one other Content.Item is = absurd (false≢true is)
ticks-cases P one other (Content.Bus n) is = absurd (false≢true is)
ticks-cases P one other (Content.BusOut size n) is = absurd (false≢true is)
ticks-cases P one other (Content.Tick n) is = one n
ticks-cases P one other (Content.Flight up down) is = absurd (false≢true is)
ticks-cases P one other (Content.Temperature n) is = absurd (false≢true is)
ticks-cases P one other Content.Int is = absurd (false≢true is)
ticks-cases P one other Content.Awaited is = absurd (false≢true is)
ticks-cases P one other Content.Regs is = absurd (false≢true is)
ticks-cases P one other (Content.Expect a n) is = absurd (false≢true is)
ticks-cases P one other Content.Show is = absurd (false≢true is)
ticks-cases P one other (Content.Set a n) is = absurd (false≢true is)
ticks-cases P one other (Content.At t) is = other t
ticks-cases P one other (Content.Stretch n) is = absurd (false≢true is)
ticks-cases P one other Content.Frames is = absurd (false≢true is)
ticks-cases P one other (Content.Probe n) is = absurd (false≢true is)
ticks-cases P one other Content.Degrees is = absurd (false≢true is)
ticks-cases P one other (Content.Record n) is = absurd (false≢true is)
ticks-cases P one other (Content.Listing old first) is = absurd (false≢true is)
ticks-cases P one other (Content.Quietest n) is = absurd (false≢true is)

first-check : (path : List ℕ) (check : Bool) → check ≡ false → get_or (counts_of (first_page path check)) 14 0 ≡ 0
unfolding first_page counts_begun
first-check path true outside = absurd (true≢false outside)
first-check path false outside = refl

-- Behind any lines of a text:
module _ (path : List ℕ) (check : Bool) (before : List (List ℕ)) (line : List ℕ) where
  abbrev here : Page
  here = each_line page_line before (first_page path check)

  abbrev answer : List ℕ
  answer = joined (line_own line here).texts

  order : InOrder here
  order = order-lines before (first_page path check) (order-first path check)

  judged-shape : is_bad line here ≡ false → is_judged (read_on line here).content ≡ true → FirstLine answer
  unfolding is_bad line_own own_whole opening fault_told left_of item_told told_by
  judged-shape good may =
      let read = read_on line here in
      let h = (head_of here.replay).counts in
      let long : length read.numbers ≡ 512 = (reading-alike here.numbers here.numbers refl line).kept ∙ order.numbers in
      let none = plain read.content h may in
      rw (begun-fault here.replay.names (counts_of here) order.long read.content ∙ good, none.0, none.1)
      (line-shape read.numbers here.replay.state h order.sound (omega (arith, long)) read.content may)

  ticks-shape : is_bad line here ≡ false → (content : Content) → is_ticks content ≡ true → (read_on line here).content ≡ content → FirstLine answer
  unfolding visible ascii
  ticks-shape good =
      ticks-cases (λ (content : Content). (read_on line here).content ≡ content → FirstLine answer)
      (λ n is. subst FirstLine (sym (tick-line-singly path check before line n is).0) (ticks-line (ascii "tick ") n n 0 _ refl))
      (λ t is. subst FirstLine (sym (at-line-singly path check before line t is good).0) (ticks-line (ascii "at ") t _ _ _ refl))

  -- The own answer of every line that may carry `=>`, and is not bad, is a first word and later words behind one blank each, up to its line feed.
  pub own-shape : is_bad line here ≡ false → may_carry (read_on line here).content ≡ true → FirstLine answer
  own-shape good may =
      by-test (is_ticks (read_on line here).content) (λ ticks. ticks-shape good (read_on line here).content ticks refl)
      (λ other. judged-shape good (rw other at may))

  -- A line that has `=>` and the words ws behind it, outside a check, or with an answer of at most 2,051 bytes:
  module _ (ws : List (List ℕ)) (clean : NoFeed line) (marked : line_expected line ≡ ws ∷ []) (good : is_bad line here ≡ false)
      (whole : (check ≡ false) ⊎ (length answer ≤ 2051)) where
    may : may_carry (read_on line here).content ≡ true
    unfolding is_bad
    may = carried-may (read_on line here).content (counts_of here) (line-carried here.numbers line ws marked) good

    shown-whole : answer_shown line here ≡ answer
    unfolding shown_answer briefly
    shown-whole =
        ⊎_elim
        (λ (outside : check ≡ false).
        rw (eq-eqb (get_or (counts_of here) 14 0) 0 (check-lines before (first_page path check) (order-first path check) ∙ first-check path check outside)))
        (λ (short : length answer ≤ 2051).
        by-test (eqb (get_or (counts_of here) 14 0) 0) (λ e. rw e) (λ e. rw (e, le-leb (length answer) 2051 short)))
        whole

    expected : expected_of line ≡ joined (spaced ws) ∷ []
    unfolding expected_of
    expected = rw marked

    -- the answer's words, the first left out, begin with ws
    abbrev pub AsExpected : Type 0
    AsExpected = take (length ws) (later_words answer) ≡ ws

    pub begins-here : (begins_so (expected_of line) (answer_shown line here) ≡ true) ↔ AsExpected
    begins-here = rw (expected, shown-whole) (begins-words answer (own-shape good may) ws (line-apart line ws clean marked))

    as-not : ¬ AsExpected → begins_so (expected_of line) (answer_shown line here) ≡ false
    as-not other = refuted (begins_so (expected_of line) (answer_shown line here)) (λ e. other (begins-here.0 e))

    -- The `=>` is counted as differing exactly where they do not.
    pub judged-exactly : (AsExpected → differences line here ≡ 0) × (¬ AsExpected → differences line here ≡ 1)
    unfolding differences
    judged-exactly =
        let words = no_words (read_on line here).content (read_on line here).numbers here.replay.state.model may in (
          λ so. let begins : begins_with (joined (spaced ws)) (answer_shown line here) ≡ true = rw expected at (begins-here.1 so) in rw (good, words, expected, begins),
          λ other. let begins : begins_with (joined (spaced ws)) (answer_shown line here) ≡ false = rw expected at (as-not other) in rw (good, words, expected, begins),
        )

    -- A refusal is announced exactly where they do.
    pub unannounced-exactly : answered_no line here ≡ true
        → (AsExpected → is_unannounced line here ≡ false) × (¬ AsExpected → is_unannounced line here ≡ true)
    unfolding is_unannounced
    unannounced-exactly refused = (λ so. rw (refused, begins-here.1 so), λ other. rw (refused, as-not other))
