-- What code keeps of a replay, as the replay that it is, and what it asks of it. Assumes nothing.
use Rattle.std.specs.Prelude.{ℕ, ◌+◌, ◌*◌, ◌≤◌, ◌<◌, Bool, true, List, ◌≡◌, eqb, ℤ, length, take}
use Rattle.unit.specs.Choice.{pick}
use Rattle.device.specs.Model.{is_sound}
use Rattle.item_answer.specs.declared.Carried.{Carried}
use Rattle.item_answer.specs.declared.Counts.{Counts}
use Rattle.item_answer.specs.OwnView.{item_of, tally_of}
use Rattle.item_replay.specs.Going.{Rest, none, ticks, Going}
use Rattle.item_replay_code.specs.declared.State.{State}

-- What of a line of ticks is still to run: nothing where no tick is left.
unfoldable pub rest_of : ℕ → ℕ → Bool → Rest
rest_of left next differs = pick (eqb left 0) none (ticks left next differs)

-- A replay, by its state and the lent lists: the bytes of the line, the user flash, the record and the probe table.
unfoldable pub going_of : State → List ℕ → List ℕ → List ℤ → List ℕ → Going
going_of s line flash differences entries = record {
  number = s.number;
  item = item_of s.carried flash differences entries;
  tally = tally_of s.counts;
  begun = take s.begun line;
  rest = rest_of s.left.0 s.next s.differs;
}

-- The lent lists have their lengths.
pub record Lists (ls fs : List ℕ) (ds : List ℤ) (es : List ℕ) : Type 0 where
  pub line : length ls ≡ 1002
  pub flash : length fs ≡ 8192
  pub differences : length ds ≡ 4096
  pub entries : length es ≡ 1024

-- The model is sound, and what is used of the lists lies in them.
pub record Fits (c : Carried) : Type 0 where
  pub sound : is_sound c.model ≡ true
  pub recorded : c.recorded ≤ 4096
  pub probes : c.probes ≤ 1024

-- Every count is at most n.
pub record Few (c : Counts) (n : ℕ) : Type 0 where
  pub calls : c.calls ≤ n
  pub refused : c.refused ≤ n
  pub unannounced : c.unannounced ≤ n
  pub bad : c.bad ≤ n
  pub expectations : c.expectations ≤ n
  pub differ : c.differ ≤ n

-- So many lines were answered since a state in which every number was at most 2^62.
abbrev pub bound : ℕ → ℕ
bound n = 4611686018427387904 + 4294967296 * n

pub record Small (s : State) (n : ℕ) : Type 0 where
  pub number : s.number ≤ bound n
  pub moment : s.carried.moment ≤ bound n
  pub counts : Few s.counts (bound n)
  pub left : s.left.0 < 4294967296
  pub next : s.next + s.left.0 ≤ bound n + 4294967296
  pub begun : s.begun ≤ 1002
