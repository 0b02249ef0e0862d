-- `setup_frames::put::put_words` meets its contract.
use Prim.Native.Nat.{◌+◌, ◌-◌, ◌*◌}
use mathlib.Core.Path.{◌≡◌}
use lib.ListN.{length}
use lib.Seq.{sets}
use Rattle.setup_frames.specs.Frames.{bytes_of}
use Rattle.setup_frames.proofs.put.put_words.Given as goal

abbrev pub invariant-loop-k : goal.invariant-loop-k
invariant-loop-k l =
    (length l.bytes ≡ length l.initial.bytes) ×
    (sets l.initial.bytes l.at (bytes_of l.s l.i l.n) ≡ sets l.bytes (l.at + 2 * l.k) (bytes_of l.s (l.i + l.k) (l.n - l.k)))
