use Prim.Native.Nat.{◌+◌, ◌-◌, ◌≤◌}
use mathlib.Core.Path.{◌≡◌}
use lib.ListN.{length}
use Rattle.quietest.specs.Quietest.{quieter}
use Rattle.quietest.specs.Search.{found}
use Rattle.quietest.proofs.search.search_all.Given as goal

abbrev pub invariant-loop-from : goal.invariant-loop-from
invariant-loop-from l = (l.from ≤ length l.values - l.width + 1) × (l.best ≡ found l.values l.width (quieter l.values l.width 0 1 (l.from - 1)))
