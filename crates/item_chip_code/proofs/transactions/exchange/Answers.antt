-- `item_chip_code::transactions::exchange` meets its contract. Assumes nothing.
use Rattle.item_chip_code.proofs.Lines.{exchanges}
use borrow.Author.Rules.{rules}
use Rattle.item_chip_code.proofs.transactions.exchange.Goals as goal

pub returns : goal.returns
returns c = exchanges c.sound_transaction-reply.ensures.0 c.sound_transaction-reply.ensures.1 c.sound_transaction-reply.ensures.2 c.moment_after-moment.ensures (search rules)
