-- `item_analysis::differences::tof_diff` meets its contract.
-- Assumes nothing.
use Rattle.item_analysis.specs.Lines.{tof_diff}
use Rattle.item_state.specs.Told.{read_word}
use Rattle.item_analysis.proofs.differences.tof_diff.Goals as goal

pub returns : goal.returns
unfolding tof_diff read_word
returns c = rw (← c.peek.ensures.same, ← c.peek-2.ensures.same, ← c.value.ensures, ← c.value-2.ensures) c.joined.ensures
