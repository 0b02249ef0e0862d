-- `line_reader::mark::marked_part` meets its contract. The invariant: no word before i is the mark; the measure is what is left of the bytes.
use Prim.Native.Nat.{◌-◌}
use lib.ListN.{length}
use Rattle.line.proofs.MarkLaws.{Looked}
use Rattle.line_reader.proofs.mark.marked_part.Given as goal

abbrev pub invariant-loop-i : goal.invariant-loop-i
invariant-loop-i l = Looked l.s l.at l.i

abbrev pub decreases-loop-i : goal.decreases-loop-i
decreases-loop-i l = length l.s - l.i
