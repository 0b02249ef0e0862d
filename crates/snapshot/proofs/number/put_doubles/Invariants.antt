-- `snapshot::number::put_doubles` meets its contract.
use Rattle.layout.proofs.Loops.{Writing}
use Rattle.snapshot.proofs.number.put_doubles.Given as goal

abbrev pub invariant-loop-i : goal.invariant-loop-i
invariant-loop-i l = Writing 2 25 18 l.initial.bytes l.fn.d l.bytes l.i
