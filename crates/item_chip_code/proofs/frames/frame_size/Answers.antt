-- `item_chip_code::frames::frame_size` meets its contract. Assumes nothing.
use native.Mathlib.Omega.{arith}
use borrow.Author.Tests.{le-leb, lt-leb, eq-eqb, ne_eqb}
use Rattle.item_chip_code.proofs.FrameSteps.{no-frame, frame-size, behind}
use Rattle.item_chip_code.proofs.frames.frame_size.Goals as goal

pub returns-in-empty : goal.returns-in-empty
returns-in-empty c = rw (no-frame c.args.frame.now (omega arith))

pub returns-then-op-ge176 : goal.returns-then-op-ge176
returns-then-op-ge176 c = rw (frame-size c.args.frame.now (λ e. omega (arith, e)), le-leb _ _ c.if-op-ge176.true, behind c.args.frame.now)

pub returns-then-op : goal.returns-then-op
returns-then-op c = rw (frame-size c.args.frame.now (λ e. omega (arith, e)), lt-leb _ _ c.if-op-ge176.false, eq-eqb _ _ c.if-op.true)

pub returns-else-op : goal.returns-else-op
returns-else-op c = rw (frame-size c.args.frame.now (λ e. omega (arith, e)), lt-leb _ _ c.if-op-ge176.false, ne_eqb _ _ c.if-op.false)
