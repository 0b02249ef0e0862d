-- `item_ticks_code::differing::hold` meets its contract.
-- Assumes nothing.
use mathlib.Core.Path.{sym, ◌∙◌}
use Rattle.item_ticks_code.proofs.Holding.{held_none, held_fits, held-differs}
use Rattle.item_ticks_code.proofs.differing.hold.Goals as goal

pub returns-then-h : goal.returns-then-h
returns-then-h c = held_none _ _ _ c.requires.0 c.if-h.true

pub returns-then-word_fits : goal.returns-then-word_fits
returns-then-word_fits c = held_fits _ _ _ c.if-h.false (sym c.word_fits.ensures ∙ c.if-word_fits.true) c.expect_from.ensures

pub returns : goal.returns
returns c = held-differs _ _ _ c.if-h.false (sym c.word_fits.ensures ∙ c.if-word_fits.false)
