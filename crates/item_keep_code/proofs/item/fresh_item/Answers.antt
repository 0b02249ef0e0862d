-- `item_keep_code::item::fresh_item` meets its contract.
-- Assumes nothing.
use borrow.Author.Rules.{rules}
use Rattle.item_answer.specs.Answer.{fresh_item}
use Rattle.item_answer.specs.OwnView.{item_of}
use Rattle.item_keep_code.proofs.item.fresh_item.Goals as goal

pub returns : goal.returns
unfolding item_of fresh_item
returns c = λ ds es. rw (c.fresh.ensures, c.fill.ensures.after (search rules), c.requires)
