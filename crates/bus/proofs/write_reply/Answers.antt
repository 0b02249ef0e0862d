-- `bus::write_reply` meets its contract.
use Rattle.device.specs.Parts.{write_reply}
use Rattle.bus.proofs.write_reply.Goals as goal

pub returns-then-is_busy : goal.returns-then-is_busy
unfolding write_reply
returns-then-is_busy c = simp (← c.refuse.ensures, c.if-is_busy.true, ← c.is_busy.ensures)

pub returns-then-write_invalid : goal.returns-then-write_invalid
unfolding write_reply
returns-then-write_invalid c = simp (← c.refuse-then-write_invalid.ensures, c.if-write_invalid.true, ← c.write_invalid.ensures, c.if-is_busy.false, ← c.is_busy.ensures)

pub returns : goal.returns
unfolding write_reply
returns c = simp (← c.accept.ensures, ← c.write_model.ensures, c.if-write_invalid.false, ← c.write_invalid.ensures, c.if-is_busy.false, ← c.is_busy.ensures)
