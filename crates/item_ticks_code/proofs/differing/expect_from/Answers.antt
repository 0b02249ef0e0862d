-- `item_ticks_code::differing::expect_from` meets its contract.
-- Assumes nothing.
use Rattle.item_ticks_code.proofs.Holding.{expected-from}
use Rattle.item_ticks_code.proofs.differing.expect_from.Goals as goal

pub returns : goal.returns
returns c = record { within = c.next_word-word.ensures.high; rule = expected-from _ _ _ _ _ c.next_word-word.ensures }
