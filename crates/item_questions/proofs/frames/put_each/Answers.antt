-- `item_questions::frames::put_each` meets its contract: a frame more in each turn.
-- Assumes nothing.
use Rattle.std.proofs.Common.{refl, rules}
use Rattle.item_questions.proofs.FrameSteps.{frames-on, frames-end}
use Rattle.item_questions.proofs.frames.put_each.Goals as goal

pub loop-length-init : goal.loop-length-init
loop-length-init c = refl

pub loop-length-preserved : goal.loop-length-preserved
loop-length-preserved c = frames-on c.args.bytes.now c.args.lengths.now c.loop-length.length-index c.loop-length.from c.loop-length-test.true (search rules) refl c.more-from.ensures c.bytes_from.ensures c.first_bytes.ensures c.put_frame-place.ensures c.loop-length.invariant

pub returns : goal.returns
returns c = frames-end c.args.bytes.now c.args.lengths.now c.loop-length.length-index c.loop-length.from c.loop-length-test.false c.loop-length.invariant
