-- `show::commands::put_commands` meets its contract.
-- Assumes nothing.
use borrow.Author.Rules.{rules}
use mathlib.Core.Path.{◌∙◌}
use Rattle.wording.proofs.Each.{put-none, put_then}
use Rattle.numeral.specs.Ascii.{ascii}
use Rattle.page.specs.Commands.{command_rows}
use Rattle.page.specs.Row.{lines}
use Rattle.show.proofs.commands.put_commands.Goals as goal

pub shape_of-buf : goal.shape_of-buf
shape_of-buf c = c.put_write.auto.buf ∙ c.put_flash-i.auto.buf ∙ c.put_command-h.auto.buf ∙ c.put_command-g.auto.buf ∙ c.put_command-f.auto.buf ∙ c.put_command-e.auto.buf ∙ c.put_command-d.auto.buf ∙ c.put_command-c.auto.buf ∙ c.put_command-b.auto.buf ∙ c.put_line-a.auto.buf

pub returns : goal.returns
unfolding ascii lines command_rows
returns c = put_then c.put_line-a.ensures (put_then c.put_command-b.ensures (put_then c.put_command-c.ensures (put_then c.put_command-d.ensures (put_then c.put_command-e.ensures (put_then c.put_command-f.ensures (put_then c.put_command-g.ensures (put_then c.put_command-h.ensures (put_then c.put_flash-i.ensures (put_then c.put_write.ensures (put-none _ _))))))))))
