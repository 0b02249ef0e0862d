-- `ticking::stretch::quiet_schedule` meets its contract.
use Rattle.device.specs.StretchSteps.{quiet_schedule}
use Rattle.ticking.proofs.stretch.quiet_schedule.Goals as goal

pub returns : goal.returns
unfolding quiet_schedule
returns c = simp (← c.least.ensures, ← c.quiet_wait.ensures, ← c.quiet_left.ensures)
