-- What the turn of a line that has ended comes to, as code takes it. Assumes nothing.
use Rattle.std.specs.Prelude.{ℕ, ◌≤◌, true, false, List, ◌≡◌, ℤ, length, take}
use Rattle.text.specs.Text.{Text}
use Rattle.item_line.specs.declared.LineRead.{LineRead}
use Rattle.item_line.specs.Line.{Call, Line}
use Rattle.item_line.specs.OwnRead.{as_expected, as_line}
use Rattle.item_answer.specs.OwnView.{item_of}
use Rattle.item_answer.specs.OwnKept.{Kept}
use Rattle.item_answer.specs.OwnRoom.{is_ticks}
use Rattle.item_answer_code.specs.OwnSteps.{is_show}
use Rattle.item_replay_code.specs.declared.State.{State}
use Rattle.item_replay_code.specs.declared.Turn.{Turn}
use Rattle.item_replay_code.specs.declared.Held.{Held}
use Rattle.item_replay_code.specs.declared.Sort.{Sort}
use Rattle.item_replay_code.specs.OwnHeld.{Holds}
use Rattle.item_replay_code.specs.OwnState.{Fits}
use Rattle.item_replay_code.specs.OwnTurn.{Bounded, Turns}

-- A line that has ended is of this sort.
unfoldable pub OfSort : Line → Text → Sort → Type 0
OfSort line text (Sort.Tick n x) = line ≡ Line.call (Call.tick n.0) (as_expected text x)
OfSort line text (Sort.At t x) = line ≡ Line.call (Call.at t.0) (as_expected text x)
OfSort line text Sort.Show = line ≡ Line.show
OfSort line text Sort.Other = (is_ticks line ≡ false) × (is_show line ≡ false)

-- The same of what was read of it.
abbrev pub Sorts : LineRead → Sort → Type 0
Sorts said r = (text : Text) (numbers : List ℕ) → OfSort (as_line text numbers said) text r

-- No line is under way, and one has ended whose bytes are kept.
pub record LineReady (s : State) (h : Held) : Type 0 where
  pub quiet : s.left.0 ≡ 0
  pub whole : h.whole ≡ true
  pub most : h.begun ≤ 1002
  pub fits : Fits s.carried
  pub bounded : Bounded s

-- The same with the lent lists.
pub record LineAsks (s : State) (h : Held) (fs : List ℕ) (ds : List ℤ) (es : List ℕ) : Type 0 where
  pub ready : LineReady s h
  pub kept : Kept (item_of s.carried fs ds es)
  pub flash : length fs ≡ 8192
  pub differences : length ds ≡ 4096
  pub entries : length es ≡ 1024

-- The turn of this line, wherever it stood.
pub record LineTurns (s : State) (h : Held) (line : Text) (fs : List ℕ) (ds : List ℤ) (es l : List ℕ) (at : ℕ) (t : Turn) (fs' : List ℕ) (ds' : List ℤ) (es' l' : List ℕ) : Type 0 where
  pub any : (text : Text) (from : ℕ) (ls ls' : List ℕ) → Holds text from ls s.begun h ls' → take h.begun ls' ≡ line
      → Turns text from s ls fs ds es l at t ls' fs' ds' es' l'

-- The same of a line that leaves the user flash, the record and the probe table as they are, whatever they have.
abbrev pub LineBeside : State → Held → Text → List ℕ → ℕ → Turn → List ℕ → Type 0
LineBeside s h line l at t l' =
    (fs : List ℕ) (ds : List ℤ) (es : List ℕ) → Kept (item_of s.carried fs ds es) → LineTurns s h line fs ds es l at t fs ds es l'
