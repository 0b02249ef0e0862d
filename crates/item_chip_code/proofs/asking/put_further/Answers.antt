-- `item_chip_code::asking::put_further` meets its contract. Assumes nothing.
use Rattle.text.proofs.Putting.{puts_none}
use Rattle.item_line.specs.OwnRead.{as_ask}
use Rattle.item_chip_code.specs.OwnAnswered.{ask_further}
use Rattle.item_chip_code.proofs.asking.put_further.Goals as goal

pub returns-in-Int : goal.returns-in-Int
unfolding as_ask ask_further
returns-in-Int c = rw c.in-Int.is (puts_none _ _)

pub returns-in-Awaited : goal.returns-in-Awaited
unfolding as_ask ask_further
returns-in-Awaited c = rw c.in-Awaited.is (puts_none _ _)

pub returns-in-Regs : goal.returns-in-Regs
unfolding as_ask ask_further
returns-in-Regs c = rw c.in-Regs.is c.put_further_lines.ensures
