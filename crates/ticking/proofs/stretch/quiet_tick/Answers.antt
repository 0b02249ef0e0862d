-- `ticking::stretch::quiet_tick` meets its contract.
use mathlib.Core.Path.{sym, ◌∙◌}
use Rattle.ticking.proofs.Quiet.{quiet-tick, quiet-fits}
use Rattle.ticking.proofs.stretch.quiet_tick.Goals as goal

pub later_model-requires : goal.later_model-requires
later_model-requires c = quiet-fits _ 1 c.requires

pub returns : goal.returns
returns c = c.later_model.ensures ∙ sym (quiet-tick _ c.requires)
