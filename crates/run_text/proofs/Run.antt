-- What a run writes is the definition's text for what was read of its files. Assumes nothing.
use mathlib.Core.Bool.{Bool, not}
use mathlib.Core.List.{List, [], ◌∷◌, ◌++◌}
use mathlib.Core.Path.{◌≡◌, refl, ap}
use Prim.Native.Nat.{ℕ}
use Rattle.collection.specs.declared.Outcome.{Outcome}
use Rattle.collection.specs.Tally.{File}
use Rattle.arguments.specs.declared.Options.{Options}
use Rattle.file_replay.specs.Files.{Turn, file_of, files_of, turns_written, Ran, ran_written}
use Rattle.run_text.specs.Run.{FileRead, came_to, texts_of, files_told, summary_of, run_text}
use Rattle.run_text.proofs.Files.{read_by, Few, file-written, file-came}

-- The files of turns, as they were read, under the names that were found.
abbrev pub read_of : {check : Bool} → Turn check → FileRead
read_of t = read_by (file_of t).name t.own

unfoldable pub reads_of : {check : Bool} → List (Turn check) → List FileRead
reads_of [] = []
reads_of (t ∷ ts) = read_of t ∷ reads_of ts

-- Less than 4,500 terabytes were read of each.
unfoldable pub AllFew : {check : Bool} → List (Turn check) → Type 0
AllFew [] = Unit {0}
AllFew (t ∷ ts) = Few (read_of t) × AllFew ts

turns-written : {check : Bool} (ts : List (Turn check)) → AllFew ts → turns_written ts ≡ texts_of check (reads_of ts)
unfolding turns_written texts_of reads_of AllFew
turns-written [] few = refl
turns-written {check} (t ∷ ts) few = rw (file-written (not check) (file_of t).name check t.own few.0, turns-written ts few.1)

files-read : {check : Bool} (ts : List (Turn check)) → AllFew ts → files_of ts ≡ files_told check (reads_of ts)
unfolding files_of files_told reads_of AllFew
files-read [] few = refl
files-read {check} (t ∷ ts) few =
    let came : file_of t ≡ record { name = (file_of t).name; outcome = came_to check (read_of t) }
    = ap (λ (o : Outcome). record { name = (file_of t).name; outcome = o }) (file-came (file_of t).name check t.own few.0) in
    rw (← files-read ts few.1) (ap (λ (f : File). f ∷ files_of ts) came)

-- All that a run writes, files and summary, is the definition's text: whatever pieces the files are read in.
pub run-written : {o : Options} (r : Ran o) → AllFew r.summed.gathered.turns
    → ran_written r ≡ run_text o.check (reads_of r.summed.gathered.turns)
unfolding run_text summary_of
run-written {o} r few =
    let turns = r.summed.gathered.turns in
    rw (turns-written turns few, ← files-read turns few, ← r.summed.gathered.all) (ap (λ (s : List ℕ). texts_of o.check (reads_of turns) ++ s) r.summed.summary)
