-- `session::ends::begin` meets its contract.
-- Assumes nothing.
use Rattle.session.specs.Ends.{names_begun, counts_begun}
use Rattle.session.proofs.ends.begin.Goals as goal

pub returns-then-check : goal.returns-then-check
unfolding names_begun counts_begun
returns-then-check c = (c.put_text.ensures.bytes, rw (c.if-check.true, ← c.put_text.ensures.next))

pub returns-else-check : goal.returns-else-check
unfolding names_begun counts_begun
returns-else-check c = (c.put_text.ensures.bytes, rw (c.if-check.false, ← c.put_text.ensures.next))
