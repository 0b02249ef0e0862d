-- A replay whose text comes in pieces: what is kept between them, and what it still writes. Assumes nothing.
use Rattle.std.specs.Prelude.{ℕ, ◌+◌, ◌≤◌, Bool, List, [], ◌∷◌, ◌++◌, ◌≡◌, length, drop}
use Rattle.device.specs.Reply.{flag}
use Rattle.text.specs.Text.{Text, text_where, ended, lines_after}
use Rattle.item_line.specs.Line.{Expected, Line}
use Rattle.item_line.specs.Reading.{line_of}
use Rattle.item_answer.specs.Answer.{Item, fresh_item, with_model, ticked}
use Rattle.item_answer.specs.Step.{Tally, no_tally, Step, step, expected_text, expects}
use Rattle.item_replay.specs.Replay.{plus, last_line}

-- ---- what is kept

-- What of a line of ticks is still to run: nothing, or so many ticks, of which the first is tick `next` of the line, and whether the line's
-- answer differs from what the line expects.
pub data Rest : Type 0 where
  none : Rest
  ticks : (left next : ℕ) (differs : Bool) → Rest

-- The number of the line that comes next or is under way, the item, the counts, the bytes of the line so far, and what of it is still to run.
pub record Going : Type 0 where
  pub number : ℕ
  pub item : Item
  pub tally : Tally
  pub begun : Text
  pub rest : Rest

-- Before the first piece.
unfoldable pub fresh_going : Going
fresh_going = record { number = 1; item = fresh_item; tally = no_tally; begun = []; rest = none }

-- ---- what is still to come

-- What each of these lines writes, leaves and adds, on the item that the line before it leaves.
unfoldable pub steps : ℕ → List Text → Item → List Step
steps number [] i = []
steps number (line ∷ others) i = let s = step number line i in s ∷ steps (number + 1) others s.item

unfoldable pub expected_of : Line → Expected
expected_of Line.silent = Expected.unmarked
expected_of (Line.bad f) = Expected.unmarked
expected_of (Line.item name) = Expected.unmarked
expected_of Line.show = Expected.unmarked
expected_of (Line.expect a ws) = Expected.unmarked
expected_of (Line.read a ws) = Expected.unmarked
expected_of (Line.call c x) = x
expected_of (Line.ask a x) = x
expected_of (Line.keep k x) = x

-- The rest of a line of ticks.
unfoldable pub rest_step : ℕ → ℕ → Bool → Expected → Item → Step
rest_step left next differs x i =
    let run = ticked left next i.model in record {
      text = run.reports ++ ended (text_where differs (expected_text x));
      item = with_model i run.model (i.moment + left);
      adds = record { calls = 1; refused = 0; unannounced = 0; bad = 0; expectations = flag (expects x); differ = flag differs };
    }

unfoldable pub coming_after : Rest → Going → Text → List Step
coming_after none g text = steps g.number (lines_after g.begun text) g.item
coming_after (ticks left next differs) g text =
    let s = rest_step left next differs (expected_of (line_of g.begun)) g.item in
    s ∷ steps (g.number + 1) (lines_after [] text) s.item

-- The steps that are still to come where this text follows.
unfoldable pub coming : Going → Text → List Step
coming g text = coming_after g.rest g text

-- ---- what steps write

unfoldable pub texts : List Step → Text
texts [] = []
texts (s ∷ ss) = s.text ++ texts ss

unfoldable pub total : Tally → List Step → Tally
total t [] = t
total t (s ∷ ss) = total (plus t s.adds) ss

-- All that is still written where this text follows and is the last.
unfoldable pub to_write : Going → Text → Text
to_write g text = let ss = coming g text in texts ss ++ ended (last_line (total g.tally ss))

-- ---- a piece

-- Steps that are done, the part of one that is under way, and those that are still to come, the rest of that one first.
unfoldable pub all_steps : List Step → Text → List Step → List Step
all_steps [] part [] = []
all_steps [] part (s ∷ ss) = record { text = part ++ s.text; item = s.item; adds = s.adds } ∷ ss
all_steps (d ∷ ds) part ss = d ∷ all_steps ds part ss

-- A piece was given to g: so many bytes of it were taken, these steps were done, a part of the next one was written, and h goes on.
pub record Went (g : Going) (piece : Text) (taken : ℕ) (done : List Step) (part : Text) (h : Going) : Type 0 where
  pub steps : (more : Text) → coming g (piece ++ more) ≡ all_steps done part (coming h (drop taken piece ++ more))
  pub tally : h.tally ≡ total g.tally done
  pub most : taken ≤ length piece
