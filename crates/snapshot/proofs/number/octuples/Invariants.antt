-- `snapshot::number::octuples` meets its contract.
use Rattle.layout.proofs.Loops.{Reading}
use Rattle.snapshot.proofs.number.octuples.Given as goal

abbrev pub invariant-loop-i : goal.invariant-loop-i
invariant-loop-i l = Reading 8 193 5 l.bytes l.o l.i
