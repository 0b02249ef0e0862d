-- What a replay goes on with after each sort of turn. Assumes nothing.
use Rattle.std.specs.Prelude.{ℕ, ◌+◌, Bool, [], ◌++◌, ◌≡◌}
use Rattle.text.specs.Text.{Text}
use Rattle.item_answer.specs.Answer.{Item}
use Rattle.item_answer.specs.Step.{Step}
use Rattle.item_replay.specs.Replay.{plus}
use Rattle.item_replay.specs.Going.{Rest, none, ticks, Going}

-- More of a line has begun.
abbrev pub held : Going → Text → Going
held g line = record { number = g.number; item = g.item; tally = g.tally; begun = line; rest = none }

-- A line is done.
abbrev pub done_with : Going → Step → Going
done_with g s = record { number = g.number + 1; item = s.item; tally = plus g.tally s.adds; begun = []; rest = none }

-- A line of ticks is under way.
abbrev pub within : Going → Text → Item → ℕ → ℕ → Bool → Going
within g line i left next differs =
    record { number = g.number; item = i; tally = g.tally; begun = line; rest = ticks left next differs }

-- A step in two parts: a text, and the step that is left.
pub record Parts (s : Step) (part : Text) (left : Step) : Type 0 where
  pub text : s.text ≡ part ++ left.text
  pub item : s.item ≡ left.item
  pub adds : s.adds ≡ left.adds
