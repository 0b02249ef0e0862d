-- `item_keep_code::frames::frames_of` meets its contract.
-- Assumes nothing.
use mathlib.Core.Path.{refl}
use Rattle.item_keep_code.proofs.FrameLines.{frames-held, not-refused}
use Rattle.item_keep_code.proofs.frames.frames_of.Goals as goal

pub returns-in-Ok : goal.returns-in-Ok
returns-in-Ok c = frames-held c.args.m c.requires refl refl c.in-Ok.ensures.0 refl

pub returns-in-Err : goal.returns-in-Err
returns-in-Err c = not-refused c.args.m c.requires refl refl c.in-Err.ensures.0 refl
