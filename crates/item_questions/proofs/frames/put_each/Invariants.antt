-- `item_questions::frames::put_each` meets its contract: a frame more in each turn.
use Rattle.std.proofs.Common.{◌≡◌, drop}
use Rattle.numeral.specs.Place.{put_each}
use Rattle.wording.specs.Wording.{frame_lines}
use Rattle.item_questions.specs.Cut.{cut}
use Rattle.item_questions.proofs.frames.put_each.Given as goal

abbrev pub invariant-loop-length : goal.invariant-loop-length
invariant-loop-length l = put_each l.answers l.place (frame_lines (cut (drop l.from l.bytes) (drop l.length-index l.lengths))) ≡ put_each l.initial.answers l.initial.place (frame_lines (cut l.bytes l.lengths))
