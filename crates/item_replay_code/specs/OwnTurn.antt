-- What a turn of a replay comes to, as code does it. Assumes nothing.
use Rattle.std.specs.Prelude.{ℕ, ◌+◌, ◌-◌, ◌≤◌, ◌<◌, Bool, true, false, List, [], ◌∷◌, ◌++◌, ◌≡◌, ℤ, length, take, drop}
use Rattle.device.specs.Reply.{flag}
use Rattle.text.specs.Text.{Text}
use Rattle.text.specs.OwnPut.{Puts}
use Rattle.item_line.specs.Line.{Expected}
use Rattle.item_line.specs.Reading.{line_of}
use Rattle.item_line.specs.OwnBounds.{ExpectedBound}
use Rattle.item_answer.specs.declared.Carried.{Carried}
use Rattle.item_answer.specs.declared.Counts.{Counts}
use Rattle.item_answer.specs.Step.{Tally, Step, expects}
use Rattle.item_answer.specs.OwnView.{item_of, tally_of}
use Rattle.item_answer.specs.OwnKept.{Kept}
use Rattle.item_replay.specs.Replay.{plus}
use Rattle.item_replay.specs.Going.{expected_of, texts, Went}
use Rattle.item_replay_code.specs.declared.State.{State}
use Rattle.item_replay_code.specs.declared.RestRan.{RestRan}
use Rattle.item_replay_code.specs.declared.TicksBegun.{TicksBegun}
use Rattle.item_replay_code.specs.declared.Turn.{Turn}
use Rattle.item_replay_code.specs.OwnRest.{TicksRun}
use Rattle.item_replay_code.specs.OwnState.{going_of, Fits, Few, Small}

-- A line was done with this item and these counts added: the state and the turn after it.
pub record LineDone (s : State) (to : ℕ) (c : Carried) (more : Counts) (end : ℕ) (r : Turn) : Type 0 where
  pub number : r.state.number ≡ s.number + 1
  pub carried : r.state.carried ≡ c
  pub counts : tally_of r.state.counts ≡ plus (tally_of s.counts) (tally_of more)
  pub few : (n : ℕ) → Few s.counts n → Few r.state.counts (n + 80)
  pub begun : r.state.begun ≡ 0
  pub left : r.state.left.0 ≡ 0
  pub next : r.state.next ≡ 0
  pub taken : r.taken ≡ to
  pub used : r.used ≡ end
  pub done : r.done ≡ true
  pub adds : r.adds ≡ more
  pub on : r.more ≡ true

-- A line of ticks goes on in the next piece.
pub record LineLeft (s : State) (to : ℕ) (c : Carried) (ticks first : ℕ) (differ : Bool) (end : ℕ) (r : Turn) : Type 0 where
  pub number : r.state.number ≡ s.number
  pub carried : r.state.carried ≡ c
  pub counts : r.state.counts ≡ s.counts
  pub begun : r.state.begun ≡ s.begun
  pub left : r.state.left.0 ≡ ticks
  pub next : r.state.next ≡ first
  pub differs : r.state.differs ≡ differ
  pub taken : r.taken ≡ to
  pub used : r.used ≡ end
  pub done : r.done ≡ false
  pub on : r.more ≡ false

-- More of a line has begun, and so many bytes of it are kept.
pub record LineHeld (s : State) (to bytes at : ℕ) (r : Turn) : Type 0 where
  pub number : r.state.number ≡ s.number
  pub carried : r.state.carried ≡ s.carried
  pub counts : r.state.counts ≡ s.counts
  pub begun : r.state.begun ≡ bytes
  pub left : r.state.left.0 ≡ 0
  pub next : r.state.next ≡ 0
  pub taken : r.taken ≡ to
  pub used : r.used ≡ at
  pub done : r.done ≡ false
  pub on : r.more ≡ false

-- One line was done whole.
pub record Whole (ds : List Step) (rest : Text) (more : Counts) : Type 0 where
  pub one : Step
  pub done : ds ≡ one ∷ []
  pub part : rest ≡ []
  pub adds : one.adds ≡ tally_of more

-- What was done of a line: all of it, with its counts, or a part of a line of ticks.
pub record Outcome (done : List Step) (part : Text) (r : Turn) : Type 0 where
  pub whole : r.done ≡ true → Whole done part r.adds
  pub under : r.done ≡ false → done ≡ []

-- A turn: what it does to the replay, what it puts, and what it keeps.
pub record Turns (text : Text) (from : ℕ) (s : State) (ls fs : List ℕ) (ds : List ℤ) (es l : List ℕ) (at : ℕ) (r : Turn) (ls' fs' : List ℕ) (ds' : List ℤ) (es' l' : List ℕ) : Type 0 where
  pub done : List Step
  pub part : Text
  pub went : Went (going_of s ls fs ds es) (drop from text) (r.taken - from) done part (going_of r.state ls' fs' ds' es')
  pub low : from ≤ r.taken
  pub high : r.taken ≤ length text
  pub put : Puts l at (texts done ++ part) r.used l'
  pub room : at + length (texts done ++ part) ≤ length l
  pub kept : Kept (item_of r.state.carried fs' ds' es')
  pub fits : Fits r.state.carried
  pub small : (n : ℕ) → Small s n → Small r.state (n + 1)
  pub outcome : Outcome done part r
  pub alike : r.more ≡ r.done
  pub quiet : r.more ≡ true → r.state.left.0 ≡ 0
  pub over : r.more ≡ true → part ≡ []
  pub on : r.more ≡ true → s.left.0 ≡ 0 → from < r.taken

-- What a line of ticks adds to the counts.
unfoldable pub ticks_tally : Bool → Expected → Tally
ticks_tally differs x =
    record { calls = 1; refused = 0; unannounced = 0; bad = 0; expectations = flag (expects x); differ = flag differs }

-- The turn after ticks that were run: the line is done, or goes on.
pub record AfterRest (s : State) (to : ℕ) (x : Expected) (r : RestRan) (differs : Bool) (t : Turn) : Type 0 where
  pub done : r.left.0 ≡ 0 → LineDone s to r.carried t.adds r.end t
  pub tally : r.left.0 ≡ 0 → tally_of t.adds ≡ ticks_tally differs x
  pub left : 0 < r.left.0 → LineLeft s to r.carried r.left.0 r.next differs r.end t

-- Every number is so small that a line more has room for its own.
pub record Bounded (s : State) : Type 0 where
  pub lines : ℕ
  pub most : lines ≤ 16777216
  pub small : Small s lines

-- A line of ticks is under way, and x is what it expects.
pub record Under (s : State) (line : Text) (x : Expected) : Type 0 where
  pub left : 0 < s.left.0
  pub fits : Fits s.carried
  pub bounded : Bounded s
  pub expected : x ≡ expected_of (line_of (take s.begun line))
  pub bound : ExpectedBound x

-- A turn that takes nothing of the piece: it is one whatever follows, and whatever the user flash, the record and the probe table have.
pub record TurnsOn (s : State) (from : ℕ) (ls l : List ℕ) (at : ℕ) (r : Turn) (l' : List ℕ) : Type 0 where
  pub any : (text : Text) (fs : List ℕ) (ds : List ℤ) (es : List ℕ) → from ≤ length text → Kept (item_of s.carried fs ds es)
      → Turns text from s ls fs ds es l at r ls fs ds es l'

-- A line that has ended comes to this step: its text is put, and this is carried after it.
pub record LineAnswered (st : Step) (s : State) (l : List ℕ) (at : ℕ) (c : Carried) (more : Counts) (end : ℕ) (fs : List ℕ) (ds : List ℤ) (es l' : List ℕ) : Type 0 where
  pub text : Puts l at st.text end l'
  pub room : at + length st.text ≤ length l
  pub item : item_of c fs ds es ≡ st.item
  pub adds : tally_of more ≡ st.adds
  pub kept : Kept (item_of c fs ds es)
  pub fits : Fits c
  pub moment : c.moment ≤ s.carried.moment + 4294967296

-- The state with so many bytes of the line kept.
pub record Begins (s : State) (bytes : ℕ) (r : State) : Type 0 where
  pub number : r.number ≡ s.number
  pub carried : r.carried ≡ s.carried
  pub counts : r.counts ≡ s.counts
  pub begun : r.begun ≡ bytes
  pub left : r.left.0 ≡ s.left.0
  pub next : r.next ≡ s.next

-- A line of n ticks, the first of them tick `first`, is begun after its first word with a blank: it is done, or goes on.
pub record TicksTurn (s : State) (to : ℕ) (word : Text) (number n first : ℕ) (x : Expected) (l : List ℕ) (at : ℕ) (t : Turn) (l' : List ℕ) : Type 0 where
  pub begun : TicksBegun
  pub run : TicksRun s.carried word number n first x l at begun l'
  pub after : AfterRest s to x begun.rest begun.differs t
