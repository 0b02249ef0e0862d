-- `item_keep_code::frames::put_frame_lines` meets its contract.
-- Assumes nothing.
use Rattle.item_answer.specs.Answer.{frames_told}
use Rattle.item_keep_code.proofs.frames.put_frame_lines.Goals as goal

pub returns : goal.returns
unfolding frames_told
returns c = λ i e. rw (e, ← c.frames_of-all.ensures.held, ← c.first_bytes.ensures, ← c.first_words.ensures) c.put_each.ensures
