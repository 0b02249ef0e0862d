-- `item_chip_code::comparing::compare_each` meets its contract. Assumes nothing.
use Prim.Native.Nat.{◌+◌}
use Rattle.item_chip_code.proofs.Comparisons.{Left}
use Rattle.item_chip_code.proofs.comparing.compare_each.Given as goal

abbrev pub invariant-loop-i : goal.invariant-loop-i
invariant-loop-i l = Left l.has l.wanted l.initial.buf l.at l.a l.buf l.c (l.a + l.i) l.place l.i
