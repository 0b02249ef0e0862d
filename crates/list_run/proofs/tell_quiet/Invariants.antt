-- `list_run::tell_quiet` meets its contract.
use mathlib.Core.Path.{◌≡◌}
use lib.ListN.{length}
use Rattle.list_run.specs.Room.{quiet_answer, quiet_answers}
use Rattle.list_run.proofs.tell_quiet.Given as goal

abbrev pub invariant-loop-i : goal.invariant-loop-i
invariant-loop-i l = (l.a ≡ quiet_answer) × (l.answers ≡ quiet_answers l.i l.k l.initial.answers) × (length l.answers ≡ length l.initial.answers)
