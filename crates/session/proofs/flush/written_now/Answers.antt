-- `session::flush::written_now` meets its contract.
-- Assumes nothing.
use Rattle.session.specs.Flush.{written_now}
use Rattle.session.proofs.flush.written_now.Goals as goal

pub returns : goal.returns
unfolding written_now
returns c = rw (← c.written_to.ensures, ← c.first_bytes.ensures) c.bytes_from.ensures
