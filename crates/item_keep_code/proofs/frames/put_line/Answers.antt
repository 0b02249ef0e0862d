-- `item_keep_code::frames::put_line` meets its contract.
-- Assumes nothing.
use Rattle.text.specs.Text.{ended}
use Rattle.text.proofs.Putting.{puts-last}
use Rattle.item_keep_code.proofs.frames.put_line.Goals as goal

pub returns : goal.returns
unfolding ended
returns c = puts-last c.put_frame-a.ensures c.put_text.ensures
