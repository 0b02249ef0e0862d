-- `numeral::print::put_four_decimals` meets its contract.
-- Assumes nothing.
use Rattle.numeral.specs.Print.{four_decimals}
use Rattle.numeral.proofs.print.put_four_decimals.Goals as goal

pub returns : goal.returns
unfolding four_decimals
returns c = c.put_pointed.ensures
