-- `item_page_code::commands::put_frame` meets its contract. Assumes nothing.
use Rattle.text.specs.Text.{ended}
use Rattle.text.proofs.Putting.{puts, puts_then, puts-last}
use borrow.Author.Rules.{rules}
use Rattle.item_page_code.proofs.commands.put_frame.Goals as goal

pub returns : goal.returns
unfolding ended
returns c = rw (← c.answer_to.ensures) (puts-last (puts_then (puts c.put_text-a.ensures) c.put_answer-b.ensures) c.put_text.ensures)
