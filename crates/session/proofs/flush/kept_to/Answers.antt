-- `session::flush::kept_to` meets its contract.
-- Assumes nothing.
use Rattle.session.specs.Flush.{kept_to}
use Rattle.session.proofs.flush.kept_to.Goals as goal

pub returns : goal.returns
unfolding kept_to
returns c = c.more.ensures
