-- `file_replay::names::read_on` meets its contract.
-- Assumes nothing.
use Rattle.file_replay.proofs.SourceLaws.{step_after}
use Rattle.file_replay.proofs.names.read_on.Goals as goal

pub returns : goal.returns
returns g c = step_after _ _ _ c.after_read.ensures
