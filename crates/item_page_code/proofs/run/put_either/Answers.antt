-- `item_page_code::run::put_either` meets its contract. Assumes nothing.
use Rattle.text.proofs.Putting.{puts}
use borrow.Author.Rules.{rules}
use Rattle.item_page_code.proofs.run.put_either.Goals as goal

pub returns-then-holds : goal.returns-then-holds
returns-then-holds c = rw c.if-holds.true (puts c.put_text.ensures)

pub returns : goal.returns
returns c = rw c.if-holds.false (puts c.put_text-2.ensures)
