-- `snapshot::number::put_quadruples` meets its contract.
use Rattle.layout.proofs.Loops.{Writing}
use Rattle.snapshot.proofs.number.put_quadruples.Given as goal

abbrev pub invariant-loop-i : goal.invariant-loop-i
invariant-loop-i l = Writing 4 61 33 l.initial.bytes l.fn.q l.bytes l.i
