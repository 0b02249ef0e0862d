-- `bus::command_reply` meets its contract.
use Rattle.device.specs.Parts.{command_reply}
use Rattle.bus.proofs.command_reply.Goals as goal

pub returns-then-command_busy : goal.returns-then-command_busy
unfolding command_reply
returns-then-command_busy c = simp (← c.refuse.ensures, c.if-command_busy.true, ← c.command_busy.ensures)

pub returns-then-before_initialize : goal.returns-then-before_initialize
unfolding command_reply
returns-then-before_initialize c = simp (← c.refuse-then-before_initialize.ensures, c.if-before_initialize.true, ← c.before_initialize.ensures, c.if-command_busy.false, ← c.command_busy.ensures)

pub returns-then-command_unset : goal.returns-then-command_unset
unfolding command_reply
returns-then-command_unset c = simp (← c.refuse-then-command_unset.ensures, c.if-command_unset.true, ← c.command_unset.ensures, c.if-before_initialize.false, ← c.before_initialize.ensures, c.if-command_busy.false, ← c.command_busy.ensures)

pub returns : goal.returns
unfolding command_reply
returns c = simp (← c.accept.ensures, ← c.starts_temperature.ensures, ← c.starts_flight.ensures, ← c.run_model.ensures, c.if-command_unset.false, ← c.command_unset.ensures, c.if-before_initialize.false, ← c.before_initialize.ensures, c.if-command_busy.false, ← c.command_busy.ensures)
