-- What the lines of a piece come to, as code answers them. Assumes nothing.
use Rattle.std.specs.Prelude.{ℕ, ◌+◌, ◌*◌, ◌≤◌, Bool, List, [], ◌∷◌, ◌++◌, ◌≡◌, ltb, ℤ, length, set}
use Rattle.unit.specs.Choice.{pick}
use Rattle.device.specs.Reply.{flag}
use Rattle.numeral.specs.Place.{overwrite}
use Rattle.text.specs.Text.{Text}
use Rattle.item_answer.specs.declared.Counts.{Counts}
use Rattle.item_answer.specs.Step.{Tally, Step, outcome, outcome_bits}
use Rattle.item_answer.specs.OwnView.{item_of, tally_of}
use Rattle.item_answer.specs.OwnKept.{Kept}
use Rattle.item_replay.specs.Going.{texts, Went}
use Rattle.item_replay_code.specs.declared.State.{State}
use Rattle.item_replay_code.specs.declared.Gone.{Gone}
use Rattle.item_replay_code.specs.OwnState.{going_of, Lists, Fits, Small}
use Rattle.item_replay_code.specs.OwnTurn.{Bounded}

-- What a turn asks of the state and the lent lists, n lines after the first.
pub record Ready (s : State) (n : ℕ) (ls fs : List ℕ) (ds : List ℤ) (es : List ℕ) : Type 0 where
  pub lists : Lists ls fs ds es
  pub fits : Fits s.carried
  pub kept : Kept (item_of s.carried fs ds es)
  pub small : Small s n

-- The same, of any number of lines.
pub record TurnReady (s : State) (ls fs : List ℕ) (ds : List ℤ) (es : List ℕ) : Type 0 where
  pub lists : Lists ls fs ds es
  pub fits : Fits s.carried
  pub kept : Kept (item_of s.carried fs ds es)
  pub bounded : Bounded s

-- The outcome of a line as a number, by whether it has an answer and by what it adds.
unfoldable pub bits_of : Bool → Tally → ℕ
bits_of answered t =
    outcome_bits
    record {
      answered = answered;
      refused = ltb 0 t.refused;
      announced = ltb t.unannounced t.refused;
      differs = ltb 0 t.differ;
      bad = ltb 0 t.bad;
    }

-- The marks of lines whose answers stand one after the other: the place after the answer, times 32, and the outcome.
unfoldable pub marks_from : ℕ → List Step → List ℕ
marks_from at [] = []
marks_from at (s ∷ ss) = ((at + length s.text) * 32 + outcome_bits (outcome s)) ∷ marks_from (at + length s.text) ss

-- One mark, where a line is done.
pub record Marked (ms : List ℕ) (count at used : ℕ) (done : Bool) (adds : Counts) (r : ℕ) (ms' : List ℕ) : Type 0 where
  pub next : r ≡ count + flag done
  pub marks : ms' ≡ pick done (set ms count (used * 32 + bits_of (ltb at used) (tally_of adds))) ms

-- A piece: what it does to the replay, what is put and marked, and what is kept.
pub record Goes (text : Text) (s : State) (ls fs : List ℕ) (ds : List ℤ) (es l ms : List ℕ) (r : Gone) (ls' fs' : List ℕ) (ds' : List ℤ) (es' l' ms' : List ℕ) : Type 0 where
  pub done : List Step
  pub part : Text
  pub went : Went (going_of s ls fs ds es) text r.taken done part (going_of r.state ls' fs' ds' es')
  pub bytes : l' ≡ overwrite l 0 (texts done ++ part)
  pub used : r.used ≡ length (texts done ++ part)
  pub room : r.used ≤ length l
  pub marks : ms' ≡ overwrite ms 0 (marks_from 0 done)
  pub count : r.count ≡ length done
  pub few : r.count ≤ length ms
  pub fits : Fits r.state.carried
  pub kept : Kept (item_of r.state.carried fs' ds' es')
  pub small : Small r.state 16777217
