-- `phrase::heads::put_flight` meets its contract.
-- Assumes nothing.
use Rattle.std.proofs.Common.{rules}
use Rattle.numeral.specs.Ascii.{ascii}
use Rattle.phrase.proofs.heads.put_flight.Goals as goal

pub returns : goal.returns
unfolding ascii
returns c = c.put_delivery.ensures
