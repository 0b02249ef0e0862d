-- `numeral::print::put_nanoseconds` meets its contract.
-- Assumes nothing.
use Rattle.numeral.specs.Print.{nanoseconds, ten_thousandths}
use Rattle.numeral.proofs.print.put_nanoseconds.Goals as goal

pub returns : goal.returns
unfolding nanoseconds ten_thousandths
returns c = rw c.from.ensures at c.put_four_decimals.ensures
