-- `list_run::ticks_ahead` meets its contract.
use Rattle.list_run.specs.Room.{AllTicks}
use Rattle.list_run.proofs.ticks_ahead.Given as goal

abbrev pub invariant-loop-n : goal.invariant-loop-n
invariant-loop-n l = AllTicks l.calls l.k l.n
