-- `item_page_code::commands::put_longer` meets its contract. Assumes nothing.
use Rattle.numeral.specs.Ascii.{ascii}
use Rattle.text.specs.Text.{ended_each}
use Rattle.text.proofs.Putting.{puts_none, puts_then}
use Rattle.item_page.specs.Page.{frame_row, command_rows}
use Rattle.item_page_code.specs.OwnWords.{answer_to}
use borrow.Author.Rules.{rules}
use Rattle.item_page_code.proofs.commands.put_longer.Goals as goal

pub returns : goal.returns
unfolding ascii ended_each answer_to frame_row command_rows
returns c = puts_then c.put_frame-a.ensures (puts_then c.put_frame.ensures (puts_none _ _))
