-- So far: the values before place i are copied.
use mathlib.Core.Path.{◌≡◌}
use lib.ListN.{take, drop}
use lib.Seq.{sets}
use Rattle.finding.proofs.copy_run.Given as goal

abbrev pub invariant-loop-i : goal.invariant-loop-i
invariant-loop-i l = sets l.initial.run 0 (take l.width (drop l.start l.values)) ≡ sets l.run l.i (drop l.i (take l.width (drop l.start l.values)))
