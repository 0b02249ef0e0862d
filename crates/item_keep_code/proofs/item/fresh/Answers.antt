-- `item_keep_code::item::fresh` meets its contract.
-- Assumes nothing.
use Rattle.device.specs.Model.{fresh_model}
use Rattle.item_keep_code.proofs.item.fresh.Goals as goal

pub returns : goal.returns
unfolding fresh_model
returns c = simp (← c.fresh_with.ensures, ← c.por_bit.ensures)
