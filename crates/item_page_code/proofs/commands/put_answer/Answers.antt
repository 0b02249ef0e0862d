-- `item_page_code::commands::put_answer` meets its contract. Assumes nothing.
use Rattle.numeral.specs.Ascii.{ascii}
use Rattle.text.proofs.Putting.{puts}
use Rattle.item_page_code.proofs.Rows.{put_same, not-refused}
use Rattle.device.specs.Reply.{number_in}
use borrow.Author.Rules.{rules}
use borrow.Enum.Refused.{opened}
use Rattle.item_page_code.proofs.commands.put_answer.Goals as goal

pub returns-in-Refused : goal.returns-in-Refused
unfolding number_in
returns-in-Refused c = rw c.in-Refused.is c.put_refused.ensures

pub returns-in_default : goal.returns-in_default
unfolding ascii
returns-in_default c = put_same (not-refused c.args.m c.args.op c.args.answer (opened c.in_default.in_default-own.keys2)) (puts c.put_text.ensures)
