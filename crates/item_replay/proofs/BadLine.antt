-- What a bad line adds to what is written. Assumes nothing.
use Prim.Native.Nat.{ℕ, ◌+◌}
use mathlib.Core.List.{List, ◌∷◌, ◌++◌}
use mathlib.Core.Path.{◌≡◌}
use Rattle.text.specs.Text.{Text, ended}
use Rattle.item_line.specs.Line.{Fault, Line}
use Rattle.item_line.specs.Reading.{line_of}
use Rattle.item_answer.specs.Words.{fault_line}
use Rattle.item_answer.specs.Answer.{Item}
use Rattle.item_answer.specs.Step.{Tally, bad_step, line_step, step}
use Rattle.item_answer.proofs.BadLine.{one_bad}
use Rattle.item_replay.specs.Replay.{plus, replay_from}

-- "the answer is `line L: ` and one of six texts .., and the replay goes on with the next line": on the item as it was, and with one bad line
-- counted.
pub goes_on :
    (number : ℕ) (line : Text) (others : List Text) (i : Item) (t : Tally) (f : Fault) →
    line_of line ≡ Line.bad f →
    replay_from number (line ∷ others) i t ≡ ended (fault_line number f) ++ replay_from (number + 1) others i (plus t one_bad)
unfolding replay_from step line_step bad_step
goes_on number line others i t f e = rw e
