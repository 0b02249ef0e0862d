-- `item_words_code::fault::put_why` meets its contract.
-- Assumes nothing.
use Rattle.numeral.specs.Ascii.{ascii}
use Rattle.text.proofs.Putting.{puts, puts_first}
use Rattle.item_line.specs.OwnRead.{as_fault}
use Rattle.item_answer.specs.Words.{fault_text}
use Rattle.item_words_code.proofs.fault.put_why.Goals as goal

pub returns-in-TooLong : goal.returns-in-TooLong
unfolding ascii as_fault fault_text
returns-in-TooLong c = rw c.in-TooLong.is (puts c.put_text.ensures)

pub returns-in-UnknownWord : goal.returns-in-UnknownWord
unfolding ascii as_fault fault_text
returns-in-UnknownWord c = rw (c.in-UnknownWord.is, ← c.part_of.ensures) (puts_first c.put_text-a.ensures c.put_shown.ensures)

pub returns-in-BadNumber : goal.returns-in-BadNumber
unfolding ascii as_fault fault_text
returns-in-BadNumber c = rw (c.in-BadNumber.is, ← c.part_of-in-BadNumber.ensures) (puts_first c.put_text-a-in-BadNumber.ensures c.put_shown-in-BadNumber.ensures)

pub returns-in-WrongCount : goal.returns-in-WrongCount
unfolding ascii as_fault fault_text
returns-in-WrongCount c = rw c.in-WrongCount.is (puts c.put_text-in-WrongCount.ensures)

pub returns-in-Past : goal.returns-in-Past
unfolding ascii as_fault fault_text
returns-in-Past c = rw c.in-Past.is (puts c.put_text-in-Past.ensures)

pub returns-in-NoRoom : goal.returns-in-NoRoom
unfolding ascii as_fault fault_text
returns-in-NoRoom c = rw c.in-NoRoom.is (puts c.put_text-in-NoRoom.ensures)
