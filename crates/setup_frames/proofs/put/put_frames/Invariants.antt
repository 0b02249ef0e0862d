-- `setup_frames::put::put_frames` meets its contract.
use Rattle.setup_frames.proofs.Loops.{Put}
use Rattle.setup_frames.proofs.put.put_frames.Given as goal

abbrev pub invariant-loop-i : goal.invariant-loop-i
invariant-loop-i l = Put l.s l.initial.bytes l.initial.lengths l.bytes l.lengths l.i l.at l.n
