-- `item_replay_code::lines::go` meets its contract.
use Prim.Native.Nat.{◌≤◌}
use mathlib.Core.Path.{◌≡◌}
use lib.ListN.{length}
use Rattle.item_replay_code.proofs.GoneLaws.{Sofar, left_over}
use Rattle.item_replay_code.proofs.lines.go.Given as goal

abbrev pub invariant-loop-more : goal.invariant-loop-more
invariant-loop-more l =
    (length l.numbers ≡ 512)
    × (length l.line ≡ length l.initial.line)
    × (length l.flash ≡ length l.initial.flash)
    × (length l.recorded ≡ length l.initial.recorded)
    × (length l.probes ≡ length l.initial.probes)
    × (length l.answers ≡ length l.initial.answers)
    × (length l.marks ≡ length l.initial.marks)
    × (l.taken ≤ length l.text)
    × Sofar l.text l.initial.state l.initial.line l.initial.flash l.initial.recorded l.initial.probes l.initial.answers l.initial.marks l.state l.taken l.used l.count l.more l.line l.flash l.recorded l.probes l.answers l.marks

abbrev pub decreases-loop-more : goal.decreases-loop-more
decreases-loop-more l = left_over l.text l.state l.taken l.more
