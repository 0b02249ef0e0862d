-- `session::ends::put_end` meets its contract.
-- Assumes nothing.
use Rattle.session.specs.Ends.{last_said}
use Rattle.session.proofs.ends.put_end.Goals as goal

pub returns-then-whole : goal.returns-then-whole
unfolding last_said
returns-then-whole c = rw c.if-whole.true c.put_last.ensures

pub returns-else-whole : goal.returns-else-whole
unfolding last_said
returns-else-whole c = rw c.if-whole.false
