-- `item_keep_code::frames::put_each` meets its contract: a frame more in each turn.
use mathlib.Core.List.{map}
use lib.ListN.{drop}
use Rattle.setup_frames.specs.Sending.{cut}
use Rattle.text.specs.Text.{ended_each}
use Rattle.item_answer.specs.Words.{frame_line}
use Rattle.item_keep_code.proofs.Printing.{Completes}
use Rattle.item_keep_code.proofs.frames.put_each.Given as goal

abbrev pub invariant-loop-n : goal.invariant-loop-n
invariant-loop-n l = Completes l.buf l.place (ended_each (map frame_line (cut (drop l.n-index l.lengths) l.left))) l.initial.buf l.at (ended_each (map frame_line (cut l.lengths l.bytes)))
