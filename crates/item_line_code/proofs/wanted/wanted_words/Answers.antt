-- `item_line_code::wanted::wanted_words` meets its contract. Assumes nothing.
use mathlib.Core.Path.{sym, ◌∙◌}
use native.Mathlib.Omega.{arith}
use Rattle.text.specs.OwnPart.{part}
use Rattle.item_line.specs.OwnRead.{as_fault}
use Rattle.item_line_code.specs.OwnReads.{wanted_by}
use Rattle.item_line_code.proofs.ReadLaws.{no_words}
use Rattle.item_line_code.proofs.WantedLaws.{judged-first, judged-next, judged-wrong, judged-many, judged-all}
use Rattle.item_line_code.proofs.wanted.wanted_words.Goals as goal

pub loop-i-init : goal.loop-i-init
unfolding part wanted_by as_fault
loop-i-init c = (omega arith, c.requires.ordered, omega arith, judged-first _ _)

pub next_in-word-requires : goal.next_in-word-requires
next_in-word-requires c = record { ordered = c.loop-i.invariant.1; high = c.requires.high; short = c.requires.short }

pub some_of-requires : goal.some_of-requires
some_of-requires c = tt

pub returns-then-to-from : goal.returns-then-to-from
unfolding part wanted_by as_fault
returns-then-to-from c = λ line. judged-all _ _ c.loop-i.invariant.3 c.args.text.now (c.next_in-word.ensures.none c.if-to-from.true) line _ c.some_of.ensures

pub returns-then-most-count : goal.returns-then-most-count
unfolding part wanted_by as_fault
returns-then-most-count c = λ line. judged-many _ _ c.loop-i.invariant.3 (c.next_in-word.ensures.some c.if-to-from.false) c.if-most-count.true line

pub slice_bounds-is_wanted-count : goal.slice_bounds-is_wanted-count
slice_bounds-is_wanted-count c = omega arith

pub slice_bounds-is_wanted-start : goal.slice_bounds-is_wanted-start
slice_bounds-is_wanted-start c = omega arith

pub slice_bounds-is_wanted-end : goal.slice_bounds-is_wanted-end
slice_bounds-is_wanted-end c = omega (arith, c.next_in-word.ensures.high, c.requires.high)

pub is_wanted-requires : goal.is_wanted-requires
is_wanted-requires c = tt

pub overflow_add-count : goal.overflow_add-count
overflow_add-count c = omega (arith, c.loop-i.invariant.1, c.loop-i.invariant.2, c.requires.short)

pub loop-i-smaller : goal.loop-i-smaller
loop-i-smaller c = omega (arith, c.next_in-word.ensures.low, c.if-to-from.false, c.loop-i-test.true)

pub loop-i-preserved : goal.loop-i-preserved
unfolding part wanted_by as_fault
loop-i-preserved c = (
  omega (arith, c.loop-i.invariant.0, c.next_in-word.ensures.low, c.next_in-word.ensures.ordered),
  c.next_in-word.ensures.high,
  omega (arith, c.loop-i.invariant.2, c.next_in-word.ensures.low, c.if-to-from.false),
  judged-next _ _ c.loop-i.invariant.3 (c.next_in-word.ensures.some c.if-to-from.false) c.if-most-count.false (sym c.is_wanted.ensures ∙ c.if-is_wanted.true),
)

pub returns-else-is_wanted : goal.returns-else-is_wanted
unfolding part wanted_by as_fault
returns-else-is_wanted c = λ line. judged-wrong _ _ c.loop-i.invariant.3 (c.next_in-word.ensures.some c.if-to-from.false) c.if-most-count.false (sym c.is_wanted.ensures ∙ c.if-is_wanted.false) line

pub some_of-requires-2 : goal.some_of-requires-2
some_of-requires-2 c = tt

pub returns : goal.returns
unfolding part wanted_by as_fault
returns c = λ line. judged-all _ _ c.loop-i.invariant.3 c.args.text.now (no_words _ _ _ c.loop-i-test.false) line _ c.some_of-2.ensures
