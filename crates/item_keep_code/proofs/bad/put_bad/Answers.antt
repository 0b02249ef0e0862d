-- `item_keep_code::bad::put_bad` meets its contract.
-- Assumes nothing.
use Rattle.text.specs.Text.{ended}
use Rattle.text.proofs.Putting.{puts-last}
use Rattle.item_keep_code.proofs.bad.put_bad.Goals as goal

pub returns : goal.returns
unfolding ended
returns c = puts-last c.put_fault-a.ensures c.put_text.ensures
