-- `item_keep_code::frames::put_each` meets its contract: a frame more in each turn.
-- Assumes nothing.
use mathlib.Core.Path.{refl}
use Rattle.item_keep_code.proofs.FrameLines.{frames-on, frames-end}
use Rattle.item_keep_code.proofs.frames.put_each.Goals as goal

pub loop-n-init : goal.loop-n-init
loop-n-init c = λ r l' p. p

pub loop-n-preserved : goal.loop-n-preserved
loop-n-preserved c = frames-on c.args.lengths.now c.loop-n.n-index c.loop-n.left.now c.loop-n-test.true refl c.first_bytes.ensures c.put_line-place.ensures c.loop-n.invariant c.bytes_from-left.ensures

pub returns : goal.returns
returns c = frames-end c.args.lengths.now c.loop-n.n-index c.loop-n.left.now c.loop-n-test.false c.loop-n.invariant
