-- `item_line_code::parts::cut` meets its contract. The invariant: no word before i ends what counts; the measure is what is left of the part.
use Prim.Native.Nat.{◌-◌}
use Rattle.item_line_code.proofs.PartLaws.{Looked}
use Rattle.item_line_code.proofs.parts.cut.Given as goal

abbrev pub invariant-loop-i : goal.invariant-loop-i
invariant-loop-i l = Looked l.marks l.text (record { start = l.initial.i; end = l.end }) l.i

abbrev pub decreases-loop-i : goal.decreases-loop-i
decreases-loop-i l = l.end - l.i
