-- All turns of a replay, and what is written in them. Assumes nothing.
use Rattle.std.specs.Prelude.{ℕ, zero, suc, ◌+◌, ◌*◌, Bool, true, cond, List, [], ◌∷◌, ◌++◌, length, take}
use Rattle.line_buffer.specs.Lines.{has_line}
use Rattle.session.specs.Feed.{Fed}
use Rattle.session.specs.Flush.{written_now, line_ending}
use Rattle.session.specs.Ends.{last_said}
use Rattle.session.specs.Turns.{Turned, turned, following, with_bytes, start}

-- turns until no line is left, so many at most
unfoldable pub drained : ℕ → Fed → Turned
drained zero f = record { text = []; fed = f }
drained (suc turns) f =
    let t = turned f in cond (has_line t.fed.left) (following t.text (drained turns t.fed)) t

-- A line of the most ticks, 4,294,967,295, has 4,096 parts, and a turn answers one at least.
abbrev pub turns_for : List ℕ → ℕ
turns_for bytes = 4097 * (length bytes + 1)

-- Each piece stands behind what is held of the line before it, and behind the last the input ends.
unfoldable pub pieces_turned : List (List ℕ) → Fed → Turned
pieces_turned [] f = let bytes = line_ending (take 1002 f.left) in drained (turns_for bytes) (with_bytes bytes f)
pieces_turned (p ∷ ps) f =
    let bytes = take 1002 f.left ++ p in
    let t = drained (turns_for bytes) (with_bytes bytes f) in following t.text (pieces_turned ps t.fed)

-- All that is written for pieces of a text that is read to its end, the last line among it.
unfoldable pub all_written : List ℕ → Bool → List (List ℕ) → List ℕ
all_written path check pieces =
    let t = pieces_turned pieces (start path check) in t.text ++ written_now (last_said true t.fed.replay.state.log)
