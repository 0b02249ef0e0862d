-- `checker::close::place_of` meets its contract: the place in what is left decides.
use Prim.Native.Nat.{◌+◌}
use mathlib.Core.Path.{◌≡◌}
use lib.ListN.{drop}
use Rattle.item_checks.specs.Close.{place_of}
use Rattle.checker.proofs.close.place_of.Given as goal

abbrev pub invariant-loop-i : goal.invariant-loop-i
invariant-loop-i l = place_of l.c l.bytes ≡ l.i + place_of l.c (drop l.i l.bytes)
