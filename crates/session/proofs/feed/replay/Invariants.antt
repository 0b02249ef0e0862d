-- `session::feed::replay` meets its contract.
use Prim.Native.Nat.{◌≤◌}
use mathlib.Core.Path.{◌≡◌}
use lib.ListN.{length}
use Rattle.session.specs.Input.{to_answer, number_of}
use Rattle.session.specs.Turns.{ReachedBy}
use Rattle.session.proofs.feed.replay.Given as goal

abbrev pub invariant-loop : goal.invariant-loop
invariant-loop g l =
    (length l.numbers ≡ 512)
    × (length l.mem ≡ 8192)
    × (length l.kept ≡ 4096)
    × (length l.probes ≡ 1024)
    × (length l.names ≡ 5120)
    × (length l.answers ≡ 163840)
    × (length l.part ≡ 65536)
    × (l.input.end ≤ length l.part)
    × ReachedBy l.path l.check l.counter (number_of l.input.state)
    record { replay = record { state = record { model = l.m; flash = l.mem; differences = l.kept; probes = l.probes; log = record { counts = l.counts; answers = l.answers } }; names = l.names }; numbers = l.numbers; left = to_answer l.input.from l.input.end l.part }
