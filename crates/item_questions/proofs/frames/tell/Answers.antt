-- `item_questions::frames::tell` meets its contract.
-- Assumes nothing.
use Rattle.wording.proofs.Each.{put_then}
use Rattle.item_questions.specs.Answers.{frames_told}
use Rattle.item_state.specs.Log.{called}
use Rattle.item_questions.proofs.frames.tell.Goals as goal

pub returns : goal.returns
unfolding frames_told called
returns c = let whole = put_then c.put_frames-a.ensures c.put_each-used.ensures in rw (← whole.next, ← whole.bytes, ← c.count.ensures)
