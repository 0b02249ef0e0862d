-- `file_replay::several::gather` meets its contract.
use mathlib.Core.Path.{◌≡◌}
use lib.ListN.{length}
use Rattle.collection.specs.Tally.{none, collection}
use Rattle.file_replay.specs.Sources.{unused}
use Rattle.file_replay.proofs.Run.{SoFar}
use Rattle.file_replay.proofs.several.gather.Given as goal

abbrev pub invariant-loop : goal.invariant-loop
invariant-loop g l =
    (length l.differ ≡ length l.initial.differ) × (length l.unannounced ≡ length l.initial.unannounced) × (length l.bad ≡ length l.initial.bad) × (length l.unread ≡ length l.initial.unread)
    × (length l.plain ≡ length l.initial.plain) × (length l.part ≡ 65536) × (length l.path ≡ 4096)
    × SoFar l.o (collection none l.initial.differ l.initial.unannounced l.initial.bad l.initial.unread l.initial.plain) (collection l.tally l.differ l.unannounced l.bad l.unread l.plain) l.counter l.source (unused l.source l.part) l.path
