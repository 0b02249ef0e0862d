-- `item_keep_code::differences::add` meets its contract.
use Prim.Native.Nat.{◌+◌}
use mathlib.Core.Path.{◌≡◌}
use mathlib.Core.List.{◌++◌, map}
use lib.ListN.{take}
use Rattle.difference.specs.Difference.{signed_of}
use Rattle.item_keep_code.proofs.differences.add.Given as goal

abbrev pub invariant-loop-i : goal.invariant-loop-i
invariant-loop-i l = take (l.used + l.i) l.kept ≡ take l.used l.initial.kept ++ take l.i (map signed_of l.words)
