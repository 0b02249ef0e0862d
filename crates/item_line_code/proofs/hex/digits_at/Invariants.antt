-- `item_line_code::hex::digits_at` meets its contract. The invariant: the bytes up to i are digits of the value.
use Rattle.item_line_code.specs.OwnDigits.{DigitsAt}
use Rattle.item_line_code.proofs.hex.digits_at.Given as goal

abbrev pub invariant-loop-i : goal.invariant-loop-i
invariant-loop-i l = DigitsAt l.s l.start l.i l.most l.value
