-- `item_keep_code::differences::tof_diff` meets its contract.
-- Assumes nothing.
use Rattle.item_keep_code.proofs.differences.tof_diff.Goals as goal

pub returns : goal.returns
returns c = rw (← c.word.ensures, ← c.word-2.ensures) c.joined.ensures
