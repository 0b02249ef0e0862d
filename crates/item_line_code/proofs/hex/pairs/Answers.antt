-- `item_line_code::hex::pairs` meets its contract. Assumes nothing.
use Rattle.item_line_code.proofs.DigitLaws.{passed-pair}
use Rattle.item_line_code.proofs.hex.pairs.Goals as goal

pub loop-v-preserved : goal.loop-v-preserved
loop-v-preserved c = passed-pair c.loop-v.invariant c.requires.1 c.requires.2 c.requires.3 c.in-Some.ensures
