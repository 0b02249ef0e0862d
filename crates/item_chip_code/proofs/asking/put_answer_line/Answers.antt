-- `item_chip_code::asking::put_answer_line` meets its contract. Assumes nothing.
use Rattle.item_line.specs.OwnRead.{as_ask}
use Rattle.item_chip_code.specs.OwnAnswered.{ask_line}
use Rattle.item_chip_code.proofs.asking.put_answer_line.Goals as goal

pub returns-in-Int : goal.returns-in-Int
unfolding as_ask ask_line
returns-in-Int c = rw c.in-Int.is c.put_interrupt.ensures

pub returns-in-Awaited : goal.returns-in-Awaited
unfolding as_ask ask_line
returns-in-Awaited c = rw c.in-Awaited.is c.put_awaited.ensures

pub returns-in-Regs : goal.returns-in-Regs
unfolding as_ask ask_line
returns-in-Regs c = rw c.in-Regs.is c.put_register_line.ensures
