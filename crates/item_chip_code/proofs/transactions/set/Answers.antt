-- `item_chip_code::transactions::set` meets its contract. Assumes nothing.
use Rattle.numeral.specs.Ascii.{ascii}
use Rattle.item_line.specs.OwnRead.{as_call}
use Rattle.item_chip_code.proofs.FrameFacts.{set-frame}
use Rattle.item_chip_code.proofs.Lines.{set-answers}
use Rattle.item_chip_code.proofs.transactions.set.Goals as goal

pub returns : goal.returns
unfolding as_call ascii
returns c = set-answers _ _ (set-frame c.requires.1 c.first_words.ensures c.put_low_bytes-first.ensures c.put_words-k.ensures c.first_bytes.ensures) c.exchange-e.ensures c.tell.ensures
