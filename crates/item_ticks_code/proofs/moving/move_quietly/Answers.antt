-- `item_ticks_code::moving::move_quietly` meets its contract.
-- Assumes nothing.
use Rattle.item_ticks_code.proofs.Ticks.{moved-quietly}
use Rattle.item_ticks_code.proofs.moving.move_quietly.Goals as goal

pub returns : goal.returns
returns c = moved-quietly _ c.requires.0 _ _ c.requires.1 c.requires.2 c.requires.3 c.quiet_ticks.ensures
