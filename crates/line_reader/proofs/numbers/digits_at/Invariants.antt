-- `line_reader::numbers::digits_at` meets its contract. The invariant: the bytes up to i are digits of the value.
use Rattle.line.specs.Clean.{DigitsAt}
use Rattle.line_reader.proofs.numbers.digits_at.Given as goal

abbrev pub invariant-loop-i : goal.invariant-loop-i
invariant-loop-i l = DigitsAt l.s l.start l.i l.most l.value
