-- Ticks of a line that were run, with their reports put into a buffer. Assumes nothing.
use Rattle.std.specs.Prelude.{ℕ, ◌+◌, ◌≤◌, ◌<◌, true, List, ◌≡◌, length}
use Rattle.device.specs.declared.Model.{Model}
use Rattle.device.specs.Model.{is_sound}
use Rattle.text.specs.OwnPut.{Puts}
use Rattle.item_answer.specs.Answer.{ticked}
use Rattle.item_ticks_code.specs.declared.RanTicks.{RanTicks}

-- The most bytes that the reports of one tick take.
abbrev pub room_of_reports : ℕ
room_of_reports = 256

-- Of `left` ticks, the first of them tick `first`, some were run on the model m, and their reports put into the buffer l from `at` on. They end
-- before the place `stop`, where that lies in the buffer and not before `at`.
pub record Going (m : Model) (left first : ℕ) (l : List ℕ) (at stop : ℕ) (r : RanTicks) (l' : List ℕ) : Type 0 where
  pub ran : ℕ
  pub count : ran + r.left.0 ≡ left
  pub next : r.next ≡ first + ran
  pub model : r.model ≡ (ticked ran first m).model
  pub sound : is_sound r.model ≡ true
  pub reports : Puts l at (ticked ran first m).reports r.end l'
  pub room : at ≤ stop → stop ≤ length l → at + length (ticked ran first m).reports ≤ stop
  pub stays : ran ≡ 0 → r.end ≡ at

-- They were run until none was left, or fewer bytes than one tick's reports may take; at least one of them, where there was room for it.
pub record Ran (m : Model) (left first : ℕ) (l : List ℕ) (at stop : ℕ) (r : RanTicks) (l' : List ℕ) : Type 0 where
  pub going : Going m left first l at stop r l'
  pub over : 0 < r.left.0 → stop < r.end + room_of_reports
  pub some : 0 < left → at + room_of_reports ≤ stop → 0 < going.ran

-- One turn: at least one tick more.
pub record Turned (r : RanTicks) (l : List ℕ) (s : RanTicks) (l' : List ℕ) : Type 0 where
  pub ran : ℕ
  pub some : 0 < ran
  pub count : ran + s.left.0 ≡ r.left.0
  pub next : s.next ≡ r.next + ran
  pub model : s.model ≡ (ticked ran r.next r.model).model
  pub reports : Puts l r.end (ticked ran r.next r.model).reports s.end l'
  pub short : length (ticked ran r.next r.model).reports ≤ room_of_reports
