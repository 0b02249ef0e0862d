-- `ticking::stretch::run` meets its contract.
use Prim.Native.Nat.{◌-◌, ◌≤◌}
use mathlib.Core.Path.{◌≡◌}
use Rattle.device.specs.StretchSteps.{progress}
use Rattle.ticking.proofs.stretch.run.Given as goal

abbrev pub invariant-loop-p : goal.invariant-loop-p
invariant-loop-p l = (l.p ≡ progress l.initial.p.model l.p.done.0) × (l.p.done.0 ≤ l.n.0)

abbrev pub decreases-loop-p : goal.decreases-loop-p
decreases-loop-p l = l.n.0 - l.p.done.0
