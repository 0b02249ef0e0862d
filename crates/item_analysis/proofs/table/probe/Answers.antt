-- `item_analysis::table::probe` meets its contract.
-- Assumes nothing.
use Rattle.item_analysis.specs.Lines.{probe_line}
use Rattle.item_state.specs.Log.{said}
use Rattle.item_analysis.proofs.table.probe.Goals as goal

pub returns : goal.returns
unfolding probe_line said
returns c = rw (← c.first_words.ensures, ← c.add-end.ensures, ← c.put_probe.ensures.next, ← c.put_probe.ensures.bytes)
