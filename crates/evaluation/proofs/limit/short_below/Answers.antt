-- `evaluation::limit::short_below` meets its contract.
use mathlib.Core.Path.{refl}
use Rattle.hit.specs.Limit.{short_below}
use Rattle.evaluation.proofs.limit.short_below.Goals as goal

pub returns : goal.returns
unfolding short_below
returns c = refl
