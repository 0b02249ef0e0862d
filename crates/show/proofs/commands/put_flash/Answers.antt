-- `show::commands::put_flash` meets its contract.
-- Assumes nothing.
use borrow.Author.Rules.{rules}
use Rattle.numeral.specs.Ascii.{ascii}
use Rattle.page.specs.Commands.{flash_row}
use Rattle.show.proofs.commands.put_flash.Goals as goal

pub returns : goal.returns
unfolding ascii flash_row
returns c = c.put_frame.ensures
