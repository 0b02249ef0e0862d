-- `snapshot::number::doubles` meets its contract.
use Rattle.layout.proofs.Loops.{Reading}
use Rattle.snapshot.proofs.number.doubles.Given as goal

abbrev pub invariant-loop-i : goal.invariant-loop-i
invariant-loop-i l = Reading 2 25 18 l.bytes l.d l.i
