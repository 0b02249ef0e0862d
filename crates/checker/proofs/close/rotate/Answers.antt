-- `checker::close::rotate` meets its contract.
-- Assumes nothing.
use Rattle.checker.proofs.CloseLaws.{exchanged-rotated}
use Rattle.checker.proofs.close.rotate.Goals as goal

pub returns : goal.returns
returns c = exchanged-rotated _ _ _ _ _ c.requires.0 c.requires.1 c.rotate_left.ensures.after
