-- `command::halted_model` meets its contract.
use Rattle.device.specs.Bus.{halted_model}
use borrow.Author.Rules.{rules}
use Rattle.command.proofs.halted_model.Goals as goal

pub returns : goal.returns
unfolding halted_model
returns c = simp (← c.joined-status.ensures, ← c.halt_bit.ensures, ← c.halt_schedule-t.ensures, ← c.halt_schedule-f.ensures)
