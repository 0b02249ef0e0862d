-- `session::ends::end` meets its contract.
-- Assumes nothing.
use mathlib.Core.Path.{ap, ◌∙◌}
use Rattle.item_state.specs.Log.{Log}
use Rattle.session.specs.Flush.{after_writing}
use Rattle.session.specs.Ends.{outcome_of}
use Rattle.session.proofs.EndLaws.{outcome-kept}
use Rattle.session.proofs.ends.end.Goals as goal

pub returns : goal.returns
returns g c = c.outcome_of.ensures ∙ ap (outcome_of _) (c.flush.ensures ∙ ap (λ (l : Log). after_writing l.counts) c.put_end.ensures) ∙ outcome-kept _ _
