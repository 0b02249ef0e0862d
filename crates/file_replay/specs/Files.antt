-- The files of a run, and what is kept of them. Assumes nothing.
use Rattle.std.specs.Prelude.{ℕ, zero, suc, ◌<◌, Bool, true, false, not, cond, List, [], ◌∷◌, ◌++◌, ◌≡◌, eqb, Result, Ok, Err, length, take, replicate}
use Rattle.line_buffer.specs.Lines.{whole_text}
use Rattle.file_names.specs.Names.{names_of, ended_names}
use Rattle.numeral.specs.Place.{joined}
use Rattle.session.specs.Turns.{Replayed, written_by}
use Rattle.collection.specs.declared.Outcome.{Outcome}
use Rattle.collection.specs.Tally.{none as no_tally, Collection, collection, File, collected}
use Rattle.collection.specs.Summary.{heading_texts, summary_texts}
use Rattle.file_replay.specs.declared.names.Source.{Source}
use Rattle.file_replay.specs.Sources.{number_of, is_there, place_behind}
use Rattle.arguments.specs.declared.Options.{Options}

-- A file that can't be opened.
abbrev pub not_read : Outcome
not_read = record { whole = false; unannounced = 0; bad = 0; expected = 0; differ = 0 }

-- The operating system hands over a file, or an error where it can't be opened.
unfoldable pub is_descriptor : {F E : Type 0} → Result F E → Bool
is_descriptor (Ok file) = true
is_descriptor (Err error) = false

-- What a file of this name came to: that of a file that can't be opened, or that of a replay under the name.
pub data Came (name : List ℕ) (check : Bool) (came : Outcome) : Type 0 where
  unread : came ≡ not_read → Came name check came
  replayed : Replayed name check came → Came name check came

-- "Each file has a heading, `== NAME ==`, but with `--check`": where one is asked for
unfoldable pub headed : Bool → List ℕ → List ℕ
headed heading name = cond heading (joined (heading_texts name)) []

-- What is written for a file: its heading and all that its replay writes, and of a file that can't be opened nothing.
unfoldable pub written_for : Bool → {name : List ℕ} {check : Bool} {came : Outcome} → Came name check came → List ℕ
written_for heading (unread e) = []
written_for heading {name} (replayed r) = headed heading name ++ written_by r

-- One turn of a run: where a name was found, the buffer that has it, and what the file of this name came to. A list of names that can't
-- be read stands under its own name, as a file that can't be read.
pub record Turn (check : Bool) : Type 0 where
  pub source : Source
  pub path : List ℕ
  pub came : Outcome
  pub there : is_there source ≡ true
  pub own : Came (take source.length path) check came
  pub broken : number_of source.state ≡ 2 → came ≡ not_read

-- The file of a turn, under the name that was found.
abbrev pub file_of : {check : Bool} → Turn check → File
file_of t = record { name = take t.source.length t.path; outcome = t.came }

-- What is written for the files of some turns, one behind the other.
unfoldable pub turns_written : {check : Bool} → List (Turn check) → List ℕ
turns_written [] = []
turns_written {check} (t ∷ ts) = written_for (not check) t.own ++ turns_written ts

unfoldable pub files_of : {check : Bool} → List (Turn check) → List File
files_of [] = []
files_of (t ∷ ts) = file_of t ∷ files_of ts

-- The names of turns, and for each the place of the argument that comes next.
unfoldable pub turn_names : {check : Bool} → List (Turn check) → List (List ℕ)
turn_names [] = []
turn_names (t ∷ ts) = (file_of t).name ∷ turn_names ts

unfoldable pub turn_places : {check : Bool} → List (Turn check) → List ℕ
turn_places [] = []
turn_places (t ∷ ts) = t.source.next ∷ turn_places ts

-- None of them is a list under its own name.
unfoldable pub all_found : {check : Bool} → List (Turn check) → Bool
all_found [] = true
all_found (t ∷ ts) = cond (eqb (number_of t.source.state) 1) (all_found ts) false

-- So many arguments from a place on: for each the place of the next.
unfoldable pub places : ℕ → ℕ → List ℕ
places zero place = []
places (suc n) place = place_behind place ∷ places n (place_behind place)

-- The turns that a list of names makes, by the pieces that it was read in:
pub data ListTurns (o : Options) : List (Turn o.check) → Type 0 where
  -- none without a list;
  none : o.list ≡ 0 → ListTurns o []
  -- one for each name of a list that was read to its end;
  whole : (turns : List (Turn o.check)) → ¬ (o.list ≡ 0) → (pieces : List (List ℕ)) → turn_names turns ≡ names_of 4096 (whole_text pieces)
      → all_found turns ≡ true → ListTurns o turns
  -- of one that can't be opened or read any further, one for each name whose line feed was read, and then one under the list's own name.
  broken : (turns : List (Turn o.check)) → ¬ (o.list ≡ 0) → (pieces : List (List ℕ))
      → turn_names turns ≡ ended_names 4096 (whole_text pieces) → all_found turns ≡ true → (own : Turn o.check) → number_of own.source.state ≡ 2
      → ListTurns o (turns ++ (own ∷ []))

-- The turns of a run: those of the list, and then one for each argument, in their order.
pub record Named (o : Options) (turns : List (Turn o.check)) : Type 0 where
  pub listed : List (Turn o.check)
  pub given : List (Turn o.check)
  pub both : turns ≡ listed ++ given
  pub list : ListTurns o listed
  pub arguments : turn_places given ≡ places o.files o.first
  pub found : all_found given ≡ true

-- A whole run: the files of its turns, in their order, and no others are collected, and the turns are one for each name. (No run makes as
-- many turns as the number below.)
pub record Gathered (o : Options) (before after : Collection) : Type 0 where
  pub turns : List (Turn o.check)
  pub all : after ≡ collected (files_of turns) before
  pub named : length turns < 18446744073709551615 → Named o turns

-- Before the first file the five groups are empty, and their buffers are zeros.
abbrev pub no_files : Collection
no_files =
    collection no_tally (replicate 65536 0) (replicate 65536 0) (replicate 65536 0) (replicate 65536 0) (replicate 65536 0)

-- What a run writes at its end: the summary of these files, whole.
pub record Summed (o : Options) (before : Collection) (bytes : List ℕ) : Type 0 where
  pub after : Collection
  pub gathered : Gathered o before after
  pub summary : bytes ≡ joined (summary_texts after)

-- A run from its first file to its summary,
pub record Ran (o : Options) : Type 0 where
  pub summary : List ℕ
  pub summed : Summed o no_files summary

-- and all that it writes: for each file in turn, and the summary.
abbrev pub ran_written : {o : Options} → Ran o → List ℕ
ran_written r = turns_written r.summed.gathered.turns ++ r.summary
