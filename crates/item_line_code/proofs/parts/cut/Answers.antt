-- `item_line_code::parts::cut` meets its contract. The invariant: no word before i ends what counts; the measure is what is left of the part.
-- Assumes nothing.
use mathlib.Core.Path.{sym, ◌∙◌}
use native.Mathlib.Omega.{arith}
use Rattle.text.specs.OwnPart.{part}
use Rattle.item_line_code.proofs.PartLaws.{looked-first, looked-next, looked-found, looked-all, looked-end}
use Rattle.item_line_code.proofs.parts.cut.Goals as goal

pub loop-i-init : goal.loop-i-init
loop-i-init c = looked-first _ _ _ c.requires.0 c.requires.1

pub next_in-word-requires : goal.next_in-word-requires
next_in-word-requires c = record { ordered = c.loop-i.invariant.high; high = c.requires.0.high; short = c.requires.0.short }

pub returns-then-to-from : goal.returns-then-to-from
returns-then-to-from c = looked-all _ _ _ c.requires.0 c.loop-i.invariant c.next_in-word.ensures c.if-to-from.true

pub slice_bounds-is_stop-count : goal.slice_bounds-is_stop-count
slice_bounds-is_stop-count c = omega arith

pub slice_bounds-is_stop-start : goal.slice_bounds-is_stop-start
slice_bounds-is_stop-start c = omega arith

pub slice_bounds-is_stop-end : goal.slice_bounds-is_stop-end
slice_bounds-is_stop-end c = omega (arith, c.next_in-word.ensures.high, c.requires.0.high)

pub is_stop-requires : goal.is_stop-requires
is_stop-requires c = tt

pub returns-then-is_stop : goal.returns-then-is_stop
unfolding part
returns-then-is_stop c = looked-found _ _ _ c.requires.0 c.loop-i.invariant c.next_in-word.ensures c.if-to-from.false (sym c.is_stop.ensures ∙ c.if-is_stop.true)

pub loop-i-smaller : goal.loop-i-smaller
loop-i-smaller c = omega (arith, c.next_in-word.ensures.low, c.if-to-from.false, c.loop-i-test.true)

pub loop-i-preserved : goal.loop-i-preserved
unfolding part
loop-i-preserved c = looked-next _ _ _ c.requires.0 c.loop-i.invariant c.next_in-word.ensures c.if-to-from.false (sym c.is_stop.ensures ∙ c.if-is_stop.false)

pub returns : goal.returns
returns c = looked-end _ _ _ c.requires.0 c.loop-i.invariant c.loop-i-test.false
