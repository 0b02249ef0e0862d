-- `item_line_code::hex::pairs` meets its contract. The invariant: the numbers up to i are stored; the measure is what is left of the bytes.
use Prim.Native.Nat.{◌-◌}
use lib.ListN.{length}
use Rattle.item_line_code.specs.OwnDigits.{Passed}
use Rattle.item_line_code.proofs.hex.pairs.Given as goal

abbrev pub invariant-loop-v : goal.invariant-loop-v
invariant-loop-v l = Passed l.fn.form l.s l.at l.n l.fn.numbers l.i l.count l.numbers

abbrev pub decreases-loop-v : goal.decreases-loop-v
decreases-loop-v l = length l.s - l.i
