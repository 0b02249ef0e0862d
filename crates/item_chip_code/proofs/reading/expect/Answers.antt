-- `item_chip_code::reading::expect` meets its contract. Assumes nothing.
use mathlib.Core.Path.{ap}
use lib.ListN.{length}
use Rattle.item_chip_code.proofs.ReadSteps.{length-registers}
use mathlib.Core.Path.{◌∙◌, sym}
use lib.Seq.{length-take-le}
use Rattle.numeral.specs.Ascii.{ascii}
use Rattle.item_chip_code.proofs.ReadSteps.{expect-fits, sized, expect-steps}
use Rattle.item_chip_code.proofs.reading.expect.Goals as goal

pub slice_bounds-words-end : goal.slice_bounds-words-end
slice_bounds-words-end c = (sized (expect-fits c.requires) c.part_of-wanted.ensures c.count_words-n.ensures).few

pub slice_bounds-has-end : goal.slice_bounds-has-end
slice_bounds-has-end c = sym (length-take-le _ _ (sized (expect-fits c.requires) c.part_of-wanted.ensures c.count_words-n.ensures).few)

pub fill_registers-requires : goal.fill_registers-requires
fill_registers-requires c = let z = sized (expect-fits c.requires) c.part_of-wanted.ensures c.count_words-n.ensures in (z.low, rw z.room z.high)

pub compare-requires : goal.compare-requires
compare-requires c = let z = sized (expect-fits c.requires) c.part_of-wanted.ensures c.count_words-n.ensures in let long = ap length c.fill_registers.ensures ∙ (length-registers _ _ _ ∙ z.room) in (long ∙ z.counted, z.fours, rw long z.high)

pub returns : goal.returns
unfolding ascii
returns c = let z = sized (expect-fits c.requires) c.part_of-wanted.ensures c.count_words-n.ensures in expect-steps _ _ c.part_of-wanted.ensures (z.room ∙ z.many) c.fill_registers.ensures c.compare.ensures
