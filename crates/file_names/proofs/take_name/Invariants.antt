-- Behind the bytes so far the name is sought on, whatever line was begun.
use mathlib.Core.List.{List}
use Prim.Native.Nat.{ℕ}
use lib.ListN.{drop}
use Rattle.file_names.specs.Names.{Begun, Sought}
use Rattle.file_names.proofs.take_name.Given as goal

abbrev pub invariant-loop-i : goal.invariant-loop-i
invariant-loop-i l =
    (start : List ℕ) → Begun l.initial.path l.length start → Sought start (drop l.at l.part) (drop l.i l.part) l.path l.n
