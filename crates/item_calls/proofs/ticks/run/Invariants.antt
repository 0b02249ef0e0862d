-- `item_calls::ticks::run` meets its contract: a stretch more in each turn.
use Prim.Native.Nat.{◌+◌, ◌≤◌}
use mathlib.Core.Path.{◌≡◌}
use lib.ListN.{length}
use Rattle.numeral.specs.Place.{put_each}
use Rattle.item_calls.specs.Lines.{ticked}
use Rattle.item_calls.proofs.ticks.run.Given as goal

abbrev pub invariant-loop-left : goal.invariant-loop-left
invariant-loop-left l =
    (length l.answers ≡ length l.initial.answers)
    × (l.before.0 + l.left.0 ≤ l.initial.before.0 + l.initial.left.0)
    × ((ticked l.left.0 l.left.0 l.before.0 l.model).model ≡ (ticked l.initial.left.0 l.initial.left.0 l.initial.before.0 l.initial.model).model)
    × (put_each l.answers l.place (ticked l.left.0 l.left.0 l.before.0 l.model).texts
    ≡ put_each l.initial.answers l.initial.place (ticked l.initial.left.0 l.initial.left.0 l.initial.before.0 l.initial.model).texts)

abbrev pub decreases-loop-left : goal.decreases-loop-left
decreases-loop-left l = l.left.0
