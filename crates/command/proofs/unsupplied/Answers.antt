-- `command::unsupplied` meets its contract.
use Rattle.device.specs.Bus.{unsupplied}
use borrow.Author.Rules.{rules}
use Rattle.command.proofs.unsupplied.Goals as goal

pub returns : goal.returns
unfolding unsupplied
returns c = simp (← c.without_ldo-status.ensures)
