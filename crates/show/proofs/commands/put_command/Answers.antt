-- `show::commands::put_command` meets its contract.
-- Assumes nothing.
use borrow.Author.Rules.{rules}
use Rattle.page.specs.Commands.{command_row}
use Rattle.show.proofs.commands.put_command.Goals as goal

pub returns : goal.returns
unfolding command_row
returns c = c.put_frame.ensures
