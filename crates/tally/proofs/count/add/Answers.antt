-- `tally::count::add` meets its contract: a tally is its counts and its groups.
-- Assumes nothing.
use Rattle.tally.proofs.Parts.{added}
use Rattle.tally.proofs.count.add.Goals as goal

pub returns : goal.returns
returns c = added _ _ _ _ _ _ _ _ c.kinds_of-k.ensures c.join.ensures c.join-2.ensures c.join-3.ensures c.join-4.ensures c.join-5.ensures c.more.ensures c.agreed.ensures
