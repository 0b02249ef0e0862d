-- The ticks of a line that is under way, as code runs them. Assumes nothing.
use Rattle.std.specs.Prelude.{ℕ, ◌+◌, ◌≤◌, ◌<◌, Bool, true, List, [], ◌++◌, ◌≡◌, eqb, length}
use Rattle.unit.specs.Choice.{pick}
use Rattle.numeral.specs.Ascii.{ascii}
use Rattle.numeral.specs.Print.{decimal}
use Rattle.device.specs.declared.Model.{Model}
use Rattle.device.specs.Model.{is_sound}
use Rattle.text.specs.Text.{Text, text_where, ended}
use Rattle.text.specs.OwnPut.{Puts}
use Rattle.item_line.specs.Line.{Expected}
use Rattle.item_answer.specs.declared.Carried.{Carried}
use Rattle.item_answer.specs.Answer.{ticked}
use Rattle.item_answer.specs.Step.{expected_text, disagrees}
use Rattle.item_replay_code.specs.declared.RestRan.{RestRan}
use Rattle.item_replay_code.specs.declared.TicksBegun.{TicksBegun}

-- What stands after the reports of a line of ticks.
unfoldable pub line_ending : Bool → Expected → Text
line_ending differs x = ended (text_where differs (expected_text x))

-- The same where no tick is left, else nothing.
unfoldable pub ending_of : ℕ → Bool → Expected → Text
ending_of left differs x = pick (eqb left 0) (line_ending differs x) []

-- Of `left` ticks, the first of them tick `first` of their line, some were run; their reports and the line's end stand in l'.
pub record RestRuns (c : Carried) (left first : ℕ) (differs : Bool) (x : Expected) (l : List ℕ) (at : ℕ) (r : RestRan) (l' : List ℕ) : Type 0 where
  pub ran : ℕ
  pub count : ran + r.left.0 ≡ left
  pub next : r.next ≡ first + ran
  pub model : r.carried.model ≡ (ticked ran first c.model).model
  pub sound : is_sound r.carried.model ≡ true
  pub moment : r.carried.moment ≡ c.moment + ran
  pub recorded : r.carried.recorded ≡ c.recorded
  pub probes : r.carried.probes ≡ c.probes
  pub text : Puts l at ((ticked ran first c.model).reports ++ ending_of r.left.0 differs x) r.end l'
  pub room : at + 1100 ≤ length l → at + length (ticked ran first c.model).reports + 1100 ≤ length l
  pub some : 0 < left → at + 1356 ≤ length l → 0 < ran

-- Whether the answer of n ticks, the first of them tick `first`, differs from what its line expects, after either word.
pub record Differs (m : Model) (n first number : ℕ) (x : Expected) (r : Bool) : Type 0 where
  pub tick : r ≡ disagrees x (ascii "tick" ++ ascii " " ++ decimal number ++ (ticked n first m).reports)
  pub at : r ≡ disagrees x (ascii "at" ++ ascii " " ++ decimal number ++ (ticked n first m).reports)

-- A line of ticks is begun so, after its first word with a blank.
pub record TicksRun (c : Carried) (word : Text) (number n first : ℕ) (x : Expected) (l : List ℕ) (at : ℕ) (r : TicksBegun) (l' : List ℕ) : Type 0 where
  pub differs : Differs c.model n first number x r.differs
  pub mid : List ℕ
  pub place : ℕ
  pub head : Puts l at (word ++ decimal number) place mid
  pub rest : RestRuns c n first r.differs x mid place r.rest l'
