-- `snapshot::number::put_octuples` meets its contract.
use Rattle.layout.proofs.Loops.{Writing}
use Rattle.snapshot.proofs.number.put_octuples.Given as goal

abbrev pub invariant-loop-i : goal.invariant-loop-i
invariant-loop-i l = Writing 8 193 5 l.initial.bytes l.fn.o l.bytes l.i
