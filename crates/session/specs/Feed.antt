-- What is answered of the bytes that were read, before answers are written. Assumes nothing.
use Rattle.std.specs.Prelude.{ℕ, zero, suc, Bool, false, cond, List, eqb, leb, get_or}
use Rattle.line.specs.Line.{line_reading}
use Rattle.line_buffer.specs.Lines.{has_line, line_of, behind_line}
use Rattle.session.specs.Line.{Replay, line_answered}

-- What is kept, the numbers of the last line, and the bytes that are still to be answered.
pub record Fed : Type 0 where
  pub replay : Replay
  pub numbers : List ℕ
  pub left : List ℕ

-- Another line can be answered where no line is under way and the buffer has room for the longest answer: its first 49,152 places at
-- most are used.
unfoldable pub has_room : List ℕ → Bool
has_room counts = cond (eqb (get_or counts 21 0) 0) (leb (get_or counts 0 0) 49152) false

-- A line that is under way is still to be answered.
unfoldable pub left_behind : List ℕ → List ℕ → List ℕ
left_behind bytes counts = cond (eqb (get_or counts 21 0) 0) (behind_line bytes) bytes

-- the first line of the bytes, answered
unfoldable pub line_fed : Fed → Fed
line_fed f =
    let r = line_answered (line_of f.left) f.numbers f.replay in record {
      replay = r;
      numbers = (line_reading f.numbers (line_of f.left)).numbers;
      left = left_behind f.left r.state.log.counts;
    }

-- one line after the other, while there is room; as many turns as there are bytes are enough
unfoldable pub fed : ℕ → Fed → Fed
fed zero f = f
fed (suc turns) f =
    cond (has_line f.left) (cond (has_room (line_fed f).replay.state.log.counts) (fed turns (line_fed f)) (line_fed f)) f
