-- `item_line_code::hex::words_of_digits` meets its contract. The invariant: the numbers up to i are stored; the measure is what is left of the bytes.
use Prim.Native.Nat.{◌-◌}
use lib.ListN.{length}
use Rattle.item_line_code.specs.OwnDigits.{Passed}
use Rattle.item_line_code.proofs.hex.words_of_digits.Given as goal

abbrev pub invariant-loop-i : goal.invariant-loop-i
invariant-loop-i l = Passed l.form l.s l.at l.n l.fn.numbers l.i l.count l.numbers

abbrev pub decreases-loop-i : goal.decreases-loop-i
decreases-loop-i l = length l.s - l.i
