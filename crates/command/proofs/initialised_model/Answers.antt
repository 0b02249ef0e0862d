-- `command::initialised_model` meets its contract.
use Rattle.device.specs.Bus.{initialised_model}
use borrow.Author.Rules.{rules}
use Rattle.command.proofs.initialised_model.Goals as goal

pub returns : goal.returns
unfolding initialised_model
returns c = simp (← c.joined-status.ensures, ← c.init_bit.ensures)
