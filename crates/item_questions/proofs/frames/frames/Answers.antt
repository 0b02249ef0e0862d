-- `item_questions::frames::frames` meets its contract.
-- Assumes nothing.
use Rattle.std.proofs.Common.{refl}
use Rattle.item_state.specs.Log.{called}
use Rattle.item_questions.proofs.FrameSteps.{frames-told, refusal-told}
use Rattle.item_questions.proofs.frames.frames.Goals as goal

pub returns-in-Ok : goal.returns-in-Ok
returns-in-Ok c = rw (← frames-told c.args.m refl refl c.setup_frames-framed.ensures.0 c.in-Ok.is _, ← c.first_words.ensures) c.tell.ensures

pub returns-in-Err : goal.returns-in-Err
unfolding called
returns-in-Err c = rw (← refusal-told c.args.m refl refl c.setup_frames-framed.ensures.0 c.in-Err.is _, ← c.put_frames_refused-used.ensures.next, ← c.put_frames_refused-used.ensures.bytes, ← c.count.ensures)
