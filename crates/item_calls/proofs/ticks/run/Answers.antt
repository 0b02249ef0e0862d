-- `item_calls::ticks::run` meets its contract: a stretch more in each turn.
-- Assumes nothing.
use mathlib.Core.Path.{refl}
use native.Mathlib.Omega.{arith}
use borrow.Author.Rules.{rules}
use Rattle.numeral.specs.Place.{put_each}
use Rattle.item_state.specs.Log.{said}
use Rattle.item_calls.specs.Lines.{ticks_part}
use Rattle.item_calls.proofs.Turns.{turn-model, turn-texts, ticks-none}
use Rattle.item_calls.proofs.ticks.run.Goals as goal

pub overflow_sub-before : goal.overflow_sub-before
overflow_sub-before c = omega (arith, c.at_most-all.ensures)

pub loop-left-init : goal.loop-left-init
loop-left-init c = (refl, omega arith, refl, refl)

pub overflow_add-later : goal.overflow_add-later
overflow_add-later c = omega (arith, c.struct_known-2-1.given.0.fits, c.at_most-all.ensures, c.at_most-part.ensures, c.at_most-span.ensures, c.loop-left.invariant.1)

pub overflow_sub-fewer : goal.overflow_sub-fewer
overflow_sub-fewer c = omega (arith, c.at_most-span.ensures)

pub loop-left-smaller : goal.loop-left-smaller
loop-left-smaller c = omega (arith, c.at_most-span.ensures, c.loop-left-test.true)

pub loop-left-preserved : goal.loop-left-preserved
loop-left-preserved c = (search rules, omega (arith, c.at_most-span.ensures, c.loop-left.invariant.1), turn-model c.loop-left.model c.loop-left.left.0 c.loop-left.before.0 c.loop-left-test.true c.at_most-span.ensures c.stretch-reply.ensures.reply c.loop-left.invariant.2, turn-texts c.loop-left.model c.loop-left.left.0 c.loop-left.before.0 c.loop-left-test.true c.at_most-span.ensures c.stretch-reply.ensures.reply c.add_reports-place.ensures c.loop-left.invariant.3)

pub overflow_sub-all : goal.overflow_sub-all
overflow_sub-all c = omega (arith, c.at_most-part.ensures)

pub returns : goal.returns
unfolding ticks_part said put_each
returns c = let over = ticks-none c.loop-left.left.0 c.loop-left.before.0 c.loop-left.model c.loop-left-test.false in let model = rw over at c.loop-left.invariant.2 in let texts = rw over at c.loop-left.invariant.3 in rw (← c.at_most-all.ensures, ← c.at_most-part.ensures, ← model, ← texts, ← c.end_part.ensures)
