-- `phrase::ticks::next_named` meets its contract.
-- Assumes nothing.
use Rattle.std.proofs.Common.{rules}
use Rattle.wording.specs.Wording.{next_named}
use Rattle.phrase.proofs.ticks.next_named.Goals as goal

pub returns : goal.returns
unfolding next_named
returns c = rw (c.sooner.ensures, c.sooner-c.ensures, c.sooner-b.ensures, c.sooner-a.ensures)
