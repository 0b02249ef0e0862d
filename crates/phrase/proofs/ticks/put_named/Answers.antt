-- `phrase::ticks::put_named` meets its contract.
-- Assumes nothing.
use Rattle.std.proofs.Common.{rules}
use Rattle.wording.specs.Wording.{named}
use Rattle.wording.proofs.Each.{put_then}
use Rattle.phrase.proofs.ticks.put_named.Goals as goal

pub returns : goal.returns
unfolding named
returns c = rw (← c.next_named-first.ensures, ← c.next_named-second.ensures) (put_then c.put_tick-a.ensures (put_then c.put_tick-b.ensures c.put_later.ensures))
