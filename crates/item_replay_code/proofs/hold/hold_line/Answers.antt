-- `item_replay_code::hold::hold_line` meets its contract.
-- Assumes nothing.
use Rattle.item_replay_code.proofs.HeldLaws.{held_whole, held-part}
use Rattle.item_replay_code.proofs.hold.hold_line.Goals as goal

pub returns-then-end-text : goal.returns-then-end-text
returns-then-end-text c = held_whole _ _ _ _ c.line_end-end.result _ _ c.line_end-end.ensures c.if-end-text.true c.copy-n.ensures

pub returns : goal.returns
returns c = held-part _ _ _ _ c.line_end-end.result _ _ c.line_end-end.ensures c.if-end-text.false c.copy-n.ensures
