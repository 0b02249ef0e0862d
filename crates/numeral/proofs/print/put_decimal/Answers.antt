-- `numeral::print::put_decimal` meets its contract.
-- Assumes nothing.
use Rattle.numeral.specs.Print.{decimal}
use Rattle.numeral.proofs.print.put_decimal.Goals as goal

pub returns : goal.returns
unfolding decimal
returns c = rw (← c.decimal_width.ensures.0) c.put_digits.ensures
