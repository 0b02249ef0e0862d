-- `ticking::stretch::quiet_ticks` meets its contract.
use mathlib.Core.Path.{sym, ◌∙◌}
use Rattle.ticking.proofs.Quiet.{quiet-ticked, quiet-fits}
use Rattle.ticking.proofs.stretch.quiet_ticks.Goals as goal

pub later_model-requires : goal.later_model-requires
later_model-requires c = quiet-fits _ _ c.requires

pub returns : goal.returns
returns c = c.later_model.ensures ∙ sym (quiet-ticked _ _ c.requires)
