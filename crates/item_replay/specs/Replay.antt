-- A replay, from a text to a text: the answers of its lines, and the last line. What stands in quotation marks is that of the description of
-- items. Assumes nothing.
use Rattle.std.specs.Prelude.{ℕ, ◌+◌, List, [], ◌∷◌, ◌++◌}
use Rattle.numeral.specs.Ascii.{ascii}
use Rattle.numeral.specs.Print.{decimal}
use Rattle.text.specs.Text.{Text, ended, lines}
use Rattle.item_answer.specs.Answer.{Item, fresh_item}
use Rattle.item_answer.specs.Step.{Tally, no_tally, step}

-- Counts, with those that a line adds.
unfoldable pub plus : Tally → Tally → Tally
plus s t = record {
  calls = s.calls + t.calls;
  refused = s.refused + t.refused;
  unannounced = s.unannounced + t.unannounced;
  bad = s.bad + t.bad;
  expectations = s.expectations + t.expectations;
  differ = s.differ + t.differ;
}

-- "The last line of every replay"
unfoldable pub last_line : Tally → Text
last_line t =
    ascii "end " ++ decimal t.calls ++ ascii " calls, " ++ decimal t.refused ++ ascii " refused, "
    ++ decimal t.unannounced ++ ascii " unannounced, " ++ decimal t.bad ++ ascii " bad lines, "
    ++ decimal t.expectations ++ ascii " expectations, " ++ decimal t.differ ++ ascii " differ"

-- The lines from the one of this number on, on an item and after these counts: "the replay goes on with the next line".
unfoldable pub replay_from : ℕ → List Text → Item → Tally → Text
replay_from number [] i t = ended (last_line t)
replay_from number (line ∷ others) i t =
    let s = step number line i in s.text ++ replay_from (number + 1) others s.item (plus t s.adds)

-- "L being the line's number in the input from 1, all lines counted"; "Without such a line the text starts on a fresh model"
unfoldable pub replay : Text → Text
replay text = replay_from 1 (lines text) fresh_item no_tally
