-- `item_page_code::commands::put_commands` meets its contract. Assumes nothing.
use mathlib.Core.Path.{◌∙◌}
use Rattle.numeral.specs.Ascii.{ascii}
use Rattle.text.specs.Text.{ended, ended_each}
use Rattle.text.proofs.Putting.{puts_then, puts_first}
use Rattle.item_page.specs.Page.{frame_row, command_rows}
use Rattle.item_page_code.specs.OwnWords.{answer_to}
use borrow.Author.Rules.{rules}
use Rattle.item_page_code.proofs.commands.put_commands.Goals as goal

pub shape_of-buf : goal.shape_of-buf
shape_of-buf c = c.put_longer.auto.buf ∙ c.put_command-h.auto.buf ∙ c.put_command-g.auto.buf ∙ c.put_command-f.auto.buf ∙ c.put_command-e.auto.buf ∙ c.put_command-d.auto.buf ∙ c.put_command-c.auto.buf ∙ c.put_command-b.auto.buf ∙ c.put_text-a.auto.buf

pub returns : goal.returns
unfolding ascii ended ended_each answer_to frame_row command_rows
returns c = puts_first c.put_text-a.ensures (puts_then c.put_command-b.ensures (puts_then c.put_command-c.ensures (puts_then c.put_command-d.ensures (puts_then c.put_command-e.ensures (puts_then c.put_command-f.ensures (puts_then c.put_command-g.ensures (puts_then c.put_command-h.ensures c.put_longer.ensures)))))))
