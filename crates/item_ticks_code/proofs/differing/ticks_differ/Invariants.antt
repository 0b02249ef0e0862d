-- `item_ticks_code::differing::ticks_differ` meets its contract.
use Prim.Native.Nat.{◌+◌, ◌≤◌}
use mathlib.Core.Bool.{true}
use mathlib.Core.Path.{◌≡◌}
use lib.ListN.{length}
use Rattle.device.specs.Model.{is_sound}
use Rattle.text.specs.Text.{words}
use Rattle.item_answer.specs.Answer.{ticked}
use Rattle.item_ticks_code.specs.OwnHeld.{differs_by}
use Rattle.item_ticks_code.proofs.differing.ticks_differ.Given as goal

abbrev pub invariant-loop-model : goal.invariant-loop-model
invariant-loop-model l =
    (l.h.end ≤ length l.expected)
    × (is_sound l.model ≡ true)
    × (l.i + l.left.0 ≤ l.initial.i + l.initial.left.0)
    × (differs_by l.expected l.h (words (ticked l.left.0 l.i l.model).reports) ≡ differs_by l.expected l.initial.h (words (ticked l.initial.left.0 l.initial.i l.initial.model).reports))

abbrev pub decreases-loop-model : goal.decreases-loop-model
decreases-loop-model l = l.left.0
