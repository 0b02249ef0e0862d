-- `show::commands::answer_to` meets its contract.
-- Assumes nothing.
use borrow.Author.Rules.{rules}
use Rattle.page.specs.Commands.{answer_to}
use Rattle.show.proofs.commands.answer_to.Goals as goal

pub returns : goal.returns
unfolding answer_to
returns c = rw (c.transaction-reply.ensures.replied.reply)
