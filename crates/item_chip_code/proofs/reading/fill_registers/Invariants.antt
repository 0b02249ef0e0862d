-- `item_chip_code::reading::fill_registers` meets its contract. Assumes nothing.
use Prim.Native.Nat.{◌+◌, ◌-◌}
use mathlib.Core.List.{◌++◌}
use mathlib.Core.Path.{◌≡◌}
use lib.ListN.{length, take}
use Rattle.item_answer.specs.Words.{registers}
use Rattle.item_chip_code.proofs.reading.fill_registers.Given as goal

abbrev pub invariant-loop-i : goal.invariant-loop-i
invariant-loop-i l = take l.i l.words ++ registers l.m (l.a + l.i) (length l.initial.words - l.i) ≡ registers l.m l.a (length l.initial.words)
