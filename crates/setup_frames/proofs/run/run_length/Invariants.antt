-- `setup_frames::run::run_length` meets its contract.
use Prim.Native.Nat.{◌+◌, ◌-◌}
use mathlib.Core.Path.{◌≡◌}
use Rattle.setup_frames.specs.Frames.{run_length}
use Rattle.setup_frames.proofs.run.run_length.Given as goal

abbrev pub invariant-loop-n : goal.invariant-loop-n
invariant-loop-n l = run_length l.s l.i (16 - l.i) ≡ l.n + run_length l.s (l.i + l.n) (16 - (l.i + l.n))
