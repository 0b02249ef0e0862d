-- Where the names of a run come from. Assumes nothing.
use Rattle.std.specs.Prelude.{ℕ, zero, suc, ◌+◌, ◌<◌, min, Bool, true, false, not, List, [], ◌∷◌, ◌≡◌, eqb, Result, Ok, Err, length, take, drop}
use Rattle.file_names.specs.Names.{named, Passed, Begun}
use Rattle.file_replay.specs.declared.names.Source.{Source}
use Rattle.file_replay.specs.declared.names.SourceState.{SourceState}
use Rattle.file_replay.specs.declared.names.SourceState.TheVariants.{Seeking, Found, Broken, NoMore}

-- The number of each state of the code.
abbrev pub number_of : SourceState → ℕ
number_of Seeking = 0
number_of Found = 1
number_of Broken = 2
number_of NoMore = 3

-- A name was found, and the names have not ended.
abbrev pub is_there : Source → Bool
is_there s = not (eqb (number_of s.state) 3)

-- The bytes of the list that are read and not used, in the buffer.
abbrev pub unused : Source → List ℕ → List ℕ
unused s part = drop s.at (take s.end part)

-- The place of the argument after this one; 2^64 − 1 is the last place.
abbrev pub place_behind : ℕ → ℕ
place_behind n = min (n + 1) 18446744073709551615

-- What comes next from the arguments, where `next` is the first of so many that are left: there are no more names, or one was found and an
-- argument fewer is left.
pub record NextArgument (next left : ℕ) (r : Source) : Type 0 where
  pub listless : r.listed ≡ false
  pub none : left ≡ 0 → number_of r.state ≡ 3
  pub found : 0 < left → (number_of r.state ≡ 1) × (r.left + 1 ≡ left) × (r.next ≡ place_behind next)

-- A source with or without a list, in a state, before these arguments.
pub record Stands (next left : ℕ) (listed : Bool) (state : ℕ) (r : Source) : Type 0 where
  pub list : r.listed ≡ listed
  pub is : number_of r.state ≡ state
  pub place : r.next ≡ next
  pub more : r.left ≡ left

-- What comes next from the list, by the pieces that are read meanwhile, where `start` is the start of a line, and `bytes` are read and not
-- used:
pub data FromList (room next left : ℕ) (start bytes : List ℕ) (r : Source) (bytes' path' : List ℕ) : Type 0 where
  -- a name, with its line feed;
  line : Stands next left true 1 r → (pieces : List (List ℕ)) → Passed room start bytes pieces (take r.length path' ∷ []) [] bytes'
      → FromList room next left start bytes r bytes' path'
  -- the list's end, and a last name without a line feed;
  last : Stands next left false 1 r → (pieces : List (List ℕ)) (rest : List ℕ) → Passed room start bytes pieces [] rest []
      → named (take room rest) [] ≡ take r.length path' ∷ [] → FromList room next left start bytes r bytes' path'
  -- the list's end, and the first argument;
  ended : NextArgument next left r → (pieces : List (List ℕ)) (rest : List ℕ) → Passed room start bytes pieces [] rest []
      → named (take room rest) [] ≡ [] → FromList room next left start bytes r bytes' path'
  -- a list that can't be read any further, with its own name.
  broken : Stands next left false 2 r → (pieces : List (List ℕ)) (rest : List ℕ) → Passed room start bytes pieces [] rest []
      → FromList room next left start bytes r bytes' path'

-- One of these, or all bytes are used, without a name, and more are read.
pub data Step (room next left : ℕ) (start bytes : List ℕ) (r : Source) (bytes' path' : List ℕ) : Type 0 where
  over : FromList room next left start bytes r bytes' path' → Step room next left start bytes r bytes' path'
  on : Stands next left true 0 r → (pieces : List (List ℕ)) (start' : List ℕ) → Passed room start bytes pieces [] start' bytes'
      → Begun path' r.length start' → Step room next left start bytes r bytes' path'

-- The same of every line that may have been begun: of each whose first bytes the buffer holds.
abbrev pub StepFrom : List ℕ → ℕ → ℕ → ℕ → List ℕ → Source → List ℕ → List ℕ → Type 0
StepFrom path n next left bytes r bytes' path' =
    (start : List ℕ) → Begun path n start → Step (length path) next left start bytes r bytes' path'

-- At the list's end: the bytes of a line that was begun are a name, and where there are none the first argument comes next.
pub record Ended (next left length : ℕ) (path : List ℕ) (r : Source) (path' : List ℕ) : Type 0 where
  pub none : length ≡ 0 → NextArgument next left r
  pub some : ¬ (length ≡ 0) → Stands next left false 1 r × (r.length ≡ length) × (path' ≡ path)

-- The operating system told how many bytes of the list it put into a buffer with so much room, 0 at its end, or an error where it can't be
-- read: the list stands under its own name; it has ended; or so many bytes are read and not used, and those of a name that are held stay.
unfoldable pub AfterRead : {E : Type 0} → Result ℕ E → ℕ → ℕ → ℕ → ℕ → List ℕ → Source → List ℕ → Type 0
AfterRead (Err e) next left held room path r path' = Stands next left false 2 r
AfterRead (Ok zero) next left held room path r path' = Ended next left held path r path'
AfterRead (Ok (suc n)) next left held room path r path' =
    Stands next left true 0 r × (r.at ≡ 0) × (r.end ≡ min (suc n) room) × (r.length ≡ held) × (path' ≡ path)
