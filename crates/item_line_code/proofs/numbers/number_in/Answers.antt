-- `item_line_code::numbers::number_in` meets its contract. Assumes nothing.
use Rattle.item_line_code.specs.OwnNumbers.{read_as, number_in}
use Rattle.item_line_code.proofs.numbers.number_in.Goals as goal

pub returns-in-Hex : goal.returns-in-Hex
unfolding number_in read_as
returns-in-Hex c = rw c.in-Hex.is c.read_hex.ensures

pub returns-in-Count : goal.returns-in-Count
unfolding number_in read_as
returns-in-Count c = rw c.in-Count.is c.read_decimal.ensures

pub returns-in-Quanta : goal.returns-in-Quanta
unfolding number_in read_as
returns-in-Quanta c = rw c.in-Quanta.is c.read_signed.ensures
