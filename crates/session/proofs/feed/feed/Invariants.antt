-- `session::feed::feed` meets its contract.
use Prim.Native.Nat.{◌+◌, ◌-◌, ◌≤◌}
use mathlib.Core.Path.{◌≡◌}
use lib.ListN.{length, drop}
use Rattle.session.specs.Feed.{fed}
use Rattle.session.proofs.FeedLaws.{Goes}
use Rattle.session.proofs.feed.feed.Given as goal

abbrev pub invariant-loop-end : goal.invariant-loop-end
invariant-loop-end l =
    (l.i ≤ length l.part)
    × (l.end ≤ length l.part)
    × (length l.numbers ≡ length l.initial.numbers)
    × (length l.mem ≡ length l.initial.mem)
    × (length l.kept ≡ length l.initial.kept)
    × (length l.probes ≡ length l.initial.probes)
    × (length l.names ≡ length l.initial.names)
    × (length l.answers ≡ length l.initial.answers)
    × Goes l.part l.i l.end
    record { replay = record { state = record { model = l.model; flash = l.mem; differences = l.kept; probes = l.probes; log = record { counts = l.counts; answers = l.answers } }; names = l.names }; numbers = l.numbers; left = drop l.i l.part }
    (fed (length l.part)
    record { replay = record { state = record { model = l.initial.model; flash = l.initial.mem; differences = l.initial.kept; probes = l.initial.probes; log = record { counts = l.initial.counts; answers = l.initial.answers } }; names = l.initial.names }; numbers = l.initial.numbers; left = l.part })

abbrev pub decreases-loop-end : goal.decreases-loop-end
decreases-loop-end l = (length l.part - l.i) + (length l.part - l.end)
