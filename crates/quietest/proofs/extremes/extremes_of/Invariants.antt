use mathlib.Core.Path.{◌≡◌}
use Rattle.quietest.specs.Quietest.{largest, smallest}
use Rattle.quietest.proofs.extremes.extremes_of.Given as goal

abbrev pub invariant-loop-x : goal.invariant-loop-x
invariant-loop-x l = (l.high ≡ largest l.values l.from l.x-index) × (l.low ≡ smallest l.values l.from l.x-index)
