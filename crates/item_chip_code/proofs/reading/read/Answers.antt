-- `item_chip_code::reading::read` meets its contract. Assumes nothing.
use mathlib.Core.Path.{◌∙◌, sym}
use lib.Seq.{length-take-le}
use Rattle.numeral.specs.Ascii.{ascii}
use Rattle.item_chip_code.proofs.ReadSteps.{read_fits, sized, read-steps}
use Rattle.item_chip_code.proofs.reading.read.Goals as goal

pub slice_bounds-words-end : goal.slice_bounds-words-end
slice_bounds-words-end c = (sized (read_fits c.requires.1) c.part_of-wanted.ensures c.count_words-n.ensures).few

pub slice_bounds-has-end : goal.slice_bounds-has-end
slice_bounds-has-end c = sym (length-take-le _ _ (sized (read_fits c.requires.1) c.part_of-wanted.ensures c.count_words-n.ensures).few)

pub read_words-carried-requires : goal.read_words-carried-requires
read_words-carried-requires c = let z = sized (read_fits c.requires.1) c.part_of-wanted.ensures c.count_words-n.ensures in (c.requires.0, z.address, rw z.room z.few)

pub compare-requires : goal.compare-requires
compare-requires c = let z = sized (read_fits c.requires.1) c.part_of-wanted.ensures c.count_words-n.ensures in let long = c.read_words-carried.ensures.long ∙ z.room in (long ∙ z.counted, z.fours, rw long z.high)

pub returns : goal.returns
unfolding ascii
returns c = let z = sized (read_fits c.requires.1) c.part_of-wanted.ensures c.count_words-n.ensures in read-steps _ _ c.part_of-wanted.ensures (z.room ∙ z.many) c.read_words-carried.ensures c.compare.ensures
