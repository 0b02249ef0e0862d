-- `phrase::ticks::none_named` meets its contract.
-- Assumes nothing.
use Rattle.std.proofs.Common.{rules}
use Rattle.phrase.proofs.ticks.none_named.Goals as goal

pub returns : goal.returns
returns c = rw c.next_named-first.ensures
