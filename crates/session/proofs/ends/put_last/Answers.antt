-- `session::ends::put_last` meets its contract.
-- Assumes nothing.
use borrow.Author.Tests.{eq-eqb, ne_eqb}
use Rattle.item_state.specs.Log.{said}
use Rattle.wording.proofs.Each.{put_then}
use Rattle.session.specs.Ends.{last_texts, last_said}
use Rattle.session.proofs.ends.put_last.Goals as goal

pub returns-then-counts-ne0 : goal.returns-then-counts-ne0
unfolding last_said
returns-then-counts-ne0 c = rw (ne_eqb _ 0 c.if-counts-ne0.true)

pub returns : goal.returns
unfolding last_said said last_texts
returns c = let p = put_then c.put_calls-a.ensures c.put_faults.ensures in rw (eq-eqb _ 0 c.if-counts-ne0.false, ← p.next, ← p.bytes)
