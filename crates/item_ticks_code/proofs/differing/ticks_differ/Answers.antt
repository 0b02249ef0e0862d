-- `item_ticks_code::differing::ticks_differ` meets its contract.
-- Assumes nothing.
use mathlib.Core.Path.{refl, sym, ◌∙◌}
use native.Mathlib.Omega.{arith}
use Rattle.item_ticks_code.proofs.Ticks.{moved-sound}
use Rattle.item_ticks_code.proofs.ReportWords.{tick-differs, at-differs}
use Rattle.item_ticks_code.proofs.Holding.{tick-more, held-turn, held-end}
use Rattle.item_ticks_code.proofs.differing.ticks_differ.Goals as goal

pub hold-h-requires : goal.hold-h-requires
hold-h-requires c = (c.expect_from-first.ensures.within, omega arith)

pub loop-model-init : goal.loop-model-init
loop-model-init c = (c.hold-h.ensures.within, c.requires.0, omega arith, refl)

pub move_on-moved-requires : goal.move_on-moved-requires
move_on-moved-requires c = (c.loop-model.invariant.1, tick-more _ c.loop-model.h (sym c.goes_on.ensures ∙ c.loop-model-test.true))

pub overflow_add-later : goal.overflow_add-later
overflow_add-later c = omega (arith, c.wide.ensures.0, c.move_on-moved.ensures.few, c.loop-model.invariant.2, c.requires.1)

pub overflow_sub-left : goal.overflow_sub-left
overflow_sub-left c = omega (arith, c.move_on-moved.ensures.few)

pub overflow_sub-later : goal.overflow_sub-later
overflow_sub-later c = omega (arith, c.wide.ensures.0, c.move_on-moved.ensures.some)

pub hold_reports-h-requires : goal.hold_reports-h-requires
hold_reports-h-requires c = c.loop-model.invariant.0

pub loop-model-smaller : goal.loop-model-smaller
loop-model-smaller c = omega (arith, c.move_on-moved.ensures.some, c.move_on-moved.ensures.few)

pub loop-model-preserved : goal.loop-model-preserved
loop-model-preserved c = (c.hold_reports-h.ensures.within, moved-sound c.loop-model.invariant.1 c.move_on-moved.ensures, omega (arith, c.wide.ensures.0, c.move_on-moved.ensures.few, c.loop-model.invariant.2), held-turn _ c.loop-model.i c.move_on-moved.ensures refl (rw c.wide.ensures.0) c.hold_reports-h.ensures ∙ c.loop-model.invariant.3)

pub returns : goal.returns
returns c =
    let same = c.differs_at_end.ensures
    ∙ (held-end _ c.loop-model.h c.loop-model.left.0 c.loop-model.i c.loop-model.model (sym c.goes_on.ensures ∙ c.loop-model-test.false)
    ∙ (c.loop-model.invariant.3 ∙ (c.hold-h.ensures.rule _ ∙ c.expect_from-first.ensures.rule _))) in
    record { tick = same ∙ tick-differs _ _ _ _ _; at = same ∙ at-differs _ _ _ _ _ }
