-- `item_chip_code::asking::put_awaited` meets its contract. Assumes nothing.
use Rattle.text.proofs.Putting.{puts-last}
use Rattle.numeral.specs.Ascii.{ascii}
use Rattle.text.proofs.Putting.{puts}
use Rattle.item_answer.specs.Answer.{awaited_text}
use Rattle.item_words_code.proofs.Flags.{flagged}
use Rattle.item_chip_code.proofs.asking.put_awaited.Goals as goal

pub returns : goal.returns
unfolding awaited_text ascii
returns c = let all = puts-last (puts-last (puts-last (puts c.put_text-a.ensures) c.put_decimal-b.ensures) c.put_text-c.ensures) c.put_decimal.ensures in rw (← flagged c.from.ensures c.is_awaited.ensures, ← flagged c.from-2.ensures c.is_awaited-2.ensures) all
