-- `item_replay_code::hold::copy` meets its contract.
-- Assumes nothing.
use Rattle.item_replay_code.proofs.HeldLaws.{copied}
use Rattle.item_replay_code.proofs.hold.copy.Goals as goal

pub returns : goal.returns
returns c =
    let pre = c.requires in
    copied _ _ _ _ _ pre.0 pre.1 (rw c.first_bytes.ensures at c.put_text.ensures)
