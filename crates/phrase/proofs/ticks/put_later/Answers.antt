-- `phrase::ticks::put_later` meets its contract.
-- Assumes nothing.
use Rattle.std.proofs.Common.{rules}
use Rattle.wording.specs.Wording.{later_named}
use Rattle.wording.proofs.Each.{put_then}
use Rattle.phrase.proofs.ticks.put_later.Goals as goal

pub returns : goal.returns
unfolding later_named
returns c = rw (← c.next_named-third.ensures, ← c.next_named-fourth.ensures) (put_then c.put_tick-a.ensures c.put_tick.ensures)
