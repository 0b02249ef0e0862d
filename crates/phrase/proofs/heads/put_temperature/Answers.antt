-- `phrase::heads::put_temperature` meets its contract.
-- Assumes nothing.
use Rattle.std.proofs.Common.{rules}
use Rattle.numeral.specs.Ascii.{ascii}
use Rattle.phrase.proofs.heads.put_temperature.Goals as goal

pub returns : goal.returns
unfolding ascii
returns c = c.put_delivery.ensures
