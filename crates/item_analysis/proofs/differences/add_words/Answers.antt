-- `item_analysis::differences::add_words` meets its contract.
-- Assumes nothing.
use Rattle.item_analysis.specs.Lines.{record_line}
use Rattle.item_state.specs.Log.{said}
use Rattle.item_analysis.proofs.differences.add_words.Goals as goal

pub returns : goal.returns
unfolding record_line said
returns c = rw (← c.store.ensures, ← c.put_record.ensures.next, ← c.put_record.ensures.bytes)
