-- `list_run::run` meets its contract.
use Prim.Native.Nat.{◌-◌, ◌/◌}
use lib.ListN.{length}
use Rattle.list_run.proofs.Laws.{Going}
use Rattle.list_run.proofs.run.Given as goal

abbrev pub invariant-loop-p : goal.invariant-loop-p
invariant-loop-p l =
    Going (length l.calls / 3) l.sound l.calls l.frames l.hits record { progress = l.initial.p; output = l.initial.out; flash = l.initial.flash; answers = l.initial.answers }
    record { progress = l.p; output = l.out; flash = l.flash; answers = l.answers }

abbrev pub decreases-loop-p : goal.decreases-loop-p
decreases-loop-p l = length l.calls / 3 - l.p.place.calls
