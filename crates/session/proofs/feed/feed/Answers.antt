-- `session::feed::feed` meets its contract.
-- Assumes nothing.
use borrow.Author.Rules.{rules}
use mathlib.Core.Path.{refl, ◌∙◌}
use native.Mathlib.Omega.{arith}
use lib.ListN.{length-drop}
use Rattle.session.proofs.FeedLaws.{goes_first, goes_on, end_low, nearer}
use Rattle.session.proofs.feed.feed.Goals as goal

pub loop-end-init : goal.loop-end-init
loop-end-init c = (search rules, search rules, refl, refl, refl, refl, refl, refl, goes_first _ _ _ refl c.line_end-end.ensures.0)

pub slice_bounds-answer_line-count : goal.slice_bounds-answer_line-count
slice_bounds-answer_line-count c = end_low _ c.loop-end.i c.loop-end.end (c.loop-end.invariant.8.more c.loop-end-test.true).0

pub slice_bounds-answer_line-start : goal.slice_bounds-answer_line-start
slice_bounds-answer_line-start c = end_low _ c.loop-end.i c.loop-end.end (c.loop-end.invariant.8.more c.loop-end-test.true).0

pub place_after-i-requires : goal.place_after-i-requires
place_after-i-requires c = omega (arith, c.loop-end-test.true, c.well_formed.1)

pub next_end-end-requires : goal.next_end-end-requires
next_end-end-requires c = omega (arith, c.loop-end-test.true, c.place_after-i.ensures.1 (end_low _ c.loop-end.i c.loop-end.end (c.loop-end.invariant.8.more c.loop-end-test.true).0))

pub loop-end-smaller : goal.loop-end-smaller
loop-end-smaller c = nearer _ c.loop-end.i c.loop-end.end c.loop-end.invariant.0 c.loop-end-test.true (c.loop-end.invariant.8.more c.loop-end-test.true).0 _ c.loop-end.numbers c.answer_line-model.ensures.0 c.answer_line-model.ensures.1 c.place_after-i.ensures.0 c.next_end-end.ensures.0

pub loop-end-preserved : goal.loop-end-preserved
loop-end-preserved c = (omega (arith, c.loop-end-test.true, c.place_after-i.ensures.1 (end_low _ c.loop-end.i c.loop-end.end (c.loop-end.invariant.8.more c.loop-end-test.true).0)), c.next_end-end.ensures.1, c.answer_line-model.auto.numbers ∙ c.loop-end.invariant.2, c.answer_line-model.auto.mem ∙ c.loop-end.invariant.3, c.answer_line-model.auto.kept ∙ c.loop-end.invariant.4, c.answer_line-model.auto.probes ∙ c.loop-end.invariant.5, c.answer_line-model.auto.names ∙ c.loop-end.invariant.6, c.answer_line-model.auto.answers ∙ c.loop-end.invariant.7, goes_on _ c.loop-end.i c.loop-end.end c.loop-end.invariant.0 c.loop-end-test.true (c.loop-end.invariant.8.more c.loop-end-test.true).0 _ c.loop-end.numbers c.answer_line-model.ensures.0 c.answer_line-model.ensures.1 c.place_after-i.ensures.0 c.next_end-end.ensures.0 (c.loop-end.invariant.8.more c.loop-end-test.true).1)

pub overflow_sub-result : goal.overflow_sub-result
overflow_sub-result c = c.loop-end.invariant.0

pub returns : goal.returns
returns c = let over = c.loop-end.invariant.8.done c.loop-end-test.false in (rw (← over), rw (← over), rw (← over, length-drop c.loop-end.i))
