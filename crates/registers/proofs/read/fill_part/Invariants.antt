-- `registers::read::fill_part` meets its contract.
use Prim.Native.Nat.{ℕ, ◌+◌, ◌≤◌, ◌<◌}
use mathlib.Core.Path.{◌≡◌}
use lib.ListN.{length}
use Rattle.device.specs.declared.Model.{Model}
use Rattle.device.specs.Registers.{register_word}
use Rattle.registers.specs.Filled.{Filled}
use Rattle.registers.proofs.read.fill_part.Given as goal

abbrev pub invariant-loop-i : goal.invariant-loop-i
invariant-loop-i g l =
    (length l.out ≡ length l.initial.out)
    × ((m : Model) →
    ((i w : ℕ) → l.fn.from ≤ i → i < l.fn.to → goal.F-post g l.fn.word (l.fn.a + i) w → w ≡ register_word m (l.fn.a + i)) →
    Filled m l.fn.a l.fn.from l.i l.initial.out l.out)
