-- `command::supplied` meets its contract.
use Rattle.device.specs.Bus.{supplied}
use borrow.Author.Rules.{rules}
use Rattle.command.proofs.supplied.Goals as goal

pub returns : goal.returns
unfolding supplied
returns c = simp (← c.joined-status.ensures, ← c.ldo_bit.ensures)
