-- `item_ticks_code::moving::move_by_one` meets its contract.
-- Assumes nothing.
use Rattle.item_ticks_code.proofs.Ticks.{moved-by-one}
use Rattle.item_ticks_code.proofs.moving.move_by_one.Goals as goal

pub returns : goal.returns
returns c = moved-by-one _ c.requires.0 _ c.requires.1 c.tick_model.ensures c.report_of.ensures c.report_of-2.ensures
