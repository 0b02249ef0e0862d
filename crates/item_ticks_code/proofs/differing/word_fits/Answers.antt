-- `item_ticks_code::differing::word_fits` meets its contract.
-- Assumes nothing.
use mathlib.Core.Path.{refl}
use Rattle.item_ticks_code.proofs.Holding.{word_end, word-long, word-there}
use Rattle.item_ticks_code.proofs.differing.word_fits.Goals as goal

pub slice_bounds-word-end : goal.slice_bounds-word-end
slice_bounds-word-end c = word_end _ _ c.requires c.ranges.i.fits refl c.put_text-middle.ensures c.put_decimal-end.ensures

pub slice_bounds-fits-end : goal.slice_bounds-fits-end
slice_bounds-fits-end c = word-long _ _ c.requires c.ranges.i.fits refl c.put_text-middle.ensures c.put_decimal-end.ensures

pub returns : goal.returns
returns c = rw (← word-there _ _ c.requires c.ranges.i.fits refl c.put_text-middle.ensures c.put_decimal-end.ensures) c.fits.ensures
