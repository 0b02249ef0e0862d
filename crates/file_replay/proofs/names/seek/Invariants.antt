-- `file_replay::names::seek` meets its contract.
use mathlib.Core.List.{[]}
use mathlib.Core.Path.{◌≡◌}
use lib.ListN.{length}
use Rattle.file_replay.specs.Sources.{number_of, unused, Step}
use Rattle.file_replay.proofs.names.seek.Given as goal

-- A name is sought: no turn has found one yet.
abbrev pub invariant-loop-reads : goal.invariant-loop-reads
invariant-loop-reads g l =
    (length l.part ≡ length l.initial.part) × (length l.path ≡ length l.initial.path) × (number_of l.it.state ≡ 0)
    × Step (length l.initial.path) l.initial.it.next l.initial.it.left [] (unused l.initial.it l.initial.part) l.it (unused l.it l.part) l.path
