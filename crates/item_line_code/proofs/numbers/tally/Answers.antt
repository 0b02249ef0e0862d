-- `item_line_code::numbers::tally` meets its contract. The invariant: to go on from i with what is counted and stored gives what all words come to;
-- the measure is what is left of the bytes. Assumes nothing.
use mathlib.Core.Path.{refl, sym, ◌∙◌}
use native.Mathlib.Omega.{arith}
use Rattle.text.specs.OwnPart.{part}
use Rattle.text_code.proofs.WordLaws.{words-end}
use Rattle.item_line_code.specs.OwnNumbers.{as_tally, EndsBy}
use Rattle.item_line_code.proofs.NumberLaws.{tally-end, tally-slash, tally-word, tally-wrong}
use Rattle.item_line_code.proofs.DigitLaws.{passed_on}
use Rattle.item_line_code.proofs.numbers.tally.Goals as goal

pub loop-i-init : goal.loop-i-init
loop-i-init c = (omega arith, refl, omega arith, refl)

pub clean_numbers-clean-requires : goal.clean_numbers-clean-requires
clean_numbers-clean-requires c = omega arith

pub next_word-word-requires : goal.next_word-word-requires
next_word-word-requires c = c.clean_numbers-clean.ensures.high

pub shape_of-numbers-then-end-start : goal.shape_of-numbers-then-end-start
shape_of-numbers-then-end-start c = c.clean_numbers-clean.auto.numbers ∙ c.loop-i.invariant.1

pub returns-then-end-start : goal.returns-then-end-start
unfolding as_tally part EndsBy
returns-then-end-start c = record {
  tallies = passed_on c.clean_numbers-clean.ensures _ _ c.loop-i.invariant.3 (tally-end _ _ _ _ _ (c.next_word-word.ensures.none c.if-end-start.true));
  ends = tt;
}

pub slice_bounds-list_word-count : goal.slice_bounds-list_word-count
slice_bounds-list_word-count c = omega arith

pub slice_bounds-list_word-start : goal.slice_bounds-list_word-start
slice_bounds-list_word-start c = omega arith

pub slice_bounds-list_word-end : goal.slice_bounds-list_word-end
slice_bounds-list_word-end c = c.next_word-word.ensures.high

pub list_word-requires : goal.list_word-requires
list_word-requires c = tt

pub shape_of-numbers-in-Wrong : goal.shape_of-numbers-in-Wrong
shape_of-numbers-in-Wrong c = c.clean_numbers-clean.auto.numbers ∙ c.loop-i.invariant.1

pub returns-in-Wrong : goal.returns-in-Wrong
unfolding as_tally part EndsBy
returns-in-Wrong c = record {
  tallies = passed_on c.clean_numbers-clean.ensures _ _ c.loop-i.invariant.3
      (tally-wrong _ _ _ _ _ (c.next_word-word.ensures.some c.if-end-start.false) (sym c.list_word.ensures ∙ c.in-Wrong.is));
  ends = c.next_word-word.ensures.high;
}

pub first_slash-up-requires : goal.first_slash-up-requires
first_slash-up-requires c = tt

pub overflow_add-slashes : goal.overflow_add-slashes
overflow_add-slashes c = omega (arith, c.if-end-start.false, c.next_word-word.ensures.low, c.next_word-word.ensures.high, c.clean_numbers-clean.ensures.low, c.clean_numbers-clean.ensures.count, c.loop-i.invariant.2)

pub store-requires : goal.store-requires
store-requires c = tt

pub overflow_add-count : goal.overflow_add-count
overflow_add-count c = omega (arith, c.if-end-start.false, c.next_word-word.ensures.low, c.next_word-word.ensures.high, c.clean_numbers-clean.ensures.low, c.clean_numbers-clean.ensures.count, c.loop-i.invariant.2)

pub loop-i-smaller-in-Slash : goal.loop-i-smaller-in-Slash
loop-i-smaller-in-Slash c = omega (arith, c.if-end-start.false, c.next_word-word.ensures.low, c.next_word-word.ensures.high, c.clean_numbers-clean.ensures.low, c.clean_numbers-clean.ensures.count, c.loop-i.invariant.2)

pub loop-i-preserved-in-Slash : goal.loop-i-preserved-in-Slash
loop-i-preserved-in-Slash c =
    let k = c.loop-i in
    let clean = c.clean_numbers-clean in
    let next = c.next_word-word.ensures in
    let word = next.some c.if-end-start.false in (
      next.high,
      clean.auto.numbers ∙ k.invariant.1,
      omega (arith, c.if-end-start.false, next.low, clean.ensures.count, k.invariant.2),
      rw c.first_slash-up.ensures
          (passed_on clean.ensures _ _ k.invariant.3 (tally-slash _ _ _ _ _ word (sym c.list_word.ensures ∙ c.in-Slash.is))),
    )

pub loop-i-smaller : goal.loop-i-smaller
loop-i-smaller c = omega (arith, c.if-end-start.false, c.next_word-word.ensures.low, c.next_word-word.ensures.high, c.clean_numbers-clean.ensures.low, c.clean_numbers-clean.ensures.count, c.loop-i.invariant.2)

pub loop-i-preserved : goal.loop-i-preserved
loop-i-preserved c =
    let k = c.loop-i in
    let clean = c.clean_numbers-clean in
    let next = c.next_word-word.ensures in
    let word = next.some c.if-end-start.false in (
      next.high,
      c.store.auto.numbers ∙ clean.auto.numbers ∙ k.invariant.1,
      omega (arith, c.if-end-start.false, next.low, clean.ensures.count, k.invariant.2),
      rw c.store.ensures
          (passed_on clean.ensures _ _ k.invariant.3 (tally-word _ _ _ _ _ word (sym c.list_word.ensures ∙ c.in-Word.is))),
    )

pub shape_of-numbers : goal.shape_of-numbers
shape_of-numbers c = c.loop-i.invariant.1

pub returns : goal.returns
unfolding as_tally part EndsBy
returns c = record { tallies = tally-end _ _ _ _ _ (words-end _ _ c.loop-i-test.false) ∙ c.loop-i.invariant.3; ends = tt }
