-- `snapshot::number::quadruples` meets its contract.
use Rattle.layout.proofs.Loops.{Reading}
use Rattle.snapshot.proofs.number.quadruples.Given as goal

abbrev pub invariant-loop-i : goal.invariant-loop-i
invariant-loop-i l = Reading 4 61 33 l.bytes l.q l.i
