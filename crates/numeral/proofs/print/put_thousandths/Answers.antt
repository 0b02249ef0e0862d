-- `numeral::print::put_thousandths` meets its contract.
-- Assumes nothing.
use Rattle.numeral.specs.Print.{thousandths}
use Rattle.numeral.proofs.print.put_thousandths.Goals as goal

pub returns : goal.returns
unfolding thousandths
returns c = rw (c.from.ensures, c.from-2.ensures) at c.put_pointed.ensures
