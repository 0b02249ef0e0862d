-- `list_run::quiet` meets its contract.
use Rattle.list_run.specs.Room.{quiet_progress}
use Rattle.list_run.proofs.quiet.Goals as goal

pub returns : goal.returns
unfolding quiet_progress
returns c = (simp c.quiet_ticks-model.ensures, c.tell_quiet.ensures)
