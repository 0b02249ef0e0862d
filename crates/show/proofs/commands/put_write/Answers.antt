-- `show::commands::put_write` meets its contract.
-- Assumes nothing.
use borrow.Author.Rules.{rules}
use Rattle.numeral.specs.Ascii.{ascii}
use Rattle.page.specs.Commands.{write_row}
use Rattle.show.proofs.commands.put_write.Goals as goal

pub returns : goal.returns
unfolding ascii write_row
returns c = c.put_frame.ensures
