-- `item_page_code::commands::answer_to` meets its contract. Assumes nothing.
use Rattle.item_page_code.specs.OwnWords.{answer_to}
use borrow.Author.Rules.{rules}
use Rattle.item_page_code.proofs.commands.answer_to.Goals as goal

pub returns : goal.returns
unfolding answer_to
returns c = rw c.transaction-reply.ensures.replied.reply
