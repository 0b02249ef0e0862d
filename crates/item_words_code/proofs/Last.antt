-- The last line of a replay, in the parts in which it is put. Assumes nothing.
use mathlib.Core.List.{◌++◌, append_assoc}
use mathlib.Core.Path.{◌≡◌}
use Rattle.numeral.specs.Ascii.{ascii}
use Rattle.numeral.specs.Print.{decimal}
use Rattle.item_answer.specs.declared.Counts.{Counts}
use Rattle.item_answer.specs.OwnView.{tally_of}
use Rattle.item_replay.specs.Replay.{last_line}

pub last_line_lem : (c : Counts)
    → ascii "end " ++ (decimal c.calls ++ ascii " calls, ") ++ (decimal c.refused ++ ascii " refused, ")
    ++ (decimal c.unannounced ++ ascii " unannounced, ") ++ (decimal c.bad ++ ascii " bad lines, ")
    ++ (decimal c.expectations ++ ascii " expectations, ") ++ (decimal c.differ ++ ascii " differ")
    ≡ last_line (tally_of c)
unfolding last_line tally_of
last_line_lem c = simp append_assoc
