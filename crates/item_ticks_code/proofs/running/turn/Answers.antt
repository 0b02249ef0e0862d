-- `item_ticks_code::running::turn` meets its contract.
-- Assumes nothing.
use Rattle.item_ticks_code.proofs.Turns.{turned}
use mathlib.Core.Path.{refl}
use Rattle.item_ticks_code.proofs.running.turn.Goals as goal

pub returns : goal.returns
returns c = turned c.move_on-moved.ensures c.requires.2 refl (rw c.wide.ensures.0) c.put_reports-end.ensures
