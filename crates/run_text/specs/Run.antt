-- What the program writes, from what is read of its files, by the rules of docs/ITEMS.md. No buffer of answers, no piece of a file and no
-- turn is in it. What stands in quotation marks is that of docs/ITEMS.md. Assumes nothing.
use Rattle.std.specs.Prelude.{Bool, not, cond, List, [], ◌∷◌, ◌++◌, ℕ}
use Rattle.numeral.specs.Place.{joined}
use Rattle.line_buffer.specs.Lines.{lines_in, text_lines, each_line}
use Rattle.collection.specs.declared.Outcome.{Outcome}
use Rattle.collection.specs.Tally.{File, collected}
use Rattle.collection.specs.Summary.{summary_texts}
use Rattle.session.specs.Ends.{outcome_of}
use Rattle.replay_text.specs.Replay.{Page, page_line, first_page, last_text}
use Rattle.file_replay.specs.Files.{not_read, headed, no_files}

-- ---- one file

-- A file as it is read: its name, whether it could be opened, the bytes that were read of it, and whether they are all of it.
pub record FileRead : Type 0 where
  pub name : List ℕ
  pub opened : Bool
  pub bytes : List ℕ
  pub whole : Bool

-- Of a file that breaks off, those lines are answered that have ended in what was read.
unfoldable pub lines_read : FileRead → List (List ℕ)
lines_read f = cond f.whole (text_lines f.bytes) (lines_in f.bytes)

-- "each file starts on a fresh model with lines from 1"
unfoldable pub page_of : Bool → FileRead → Page
page_of check f = each_line page_line (lines_read f) (first_page f.name check)

-- One that breaks off has no last line.
unfoldable pub answers_of : Bool → FileRead → List ℕ
answers_of check f =
    let p = page_of check f in
    p.text ++ cond f.whole (last_text p.replay.state.log.counts) []

-- "One that can't be opened .. is told on standard error", and nothing of it is written here; else its heading, where it has one, and its
-- answers.
unfoldable pub text_of : Bool → Bool → FileRead → List ℕ
text_of heading check f = cond f.opened (headed heading f.name ++ answers_of check f) []

-- What it came to, by which the summary has it.
unfoldable pub came_to : Bool → FileRead → Outcome
came_to check f = cond f.opened (outcome_of f.whole (page_of check f).replay.state.log.counts) not_read

-- ---- a run

-- "Each file has a heading, `== NAME ==`, but with `--check`"
unfoldable pub texts_of : Bool → List FileRead → List ℕ
texts_of check [] = []
texts_of check (f ∷ fs) = text_of (not check) check f ++ texts_of check fs

unfoldable pub files_told : Bool → List FileRead → List File
files_told check [] = []
files_told check (f ∷ fs) = record { name = f.name; outcome = came_to check f } ∷ files_told check fs

-- "a summary closes the run"
unfoldable pub summary_of : Bool → List FileRead → List ℕ
summary_of check fs = joined (summary_texts (collected (files_told check fs) no_files))

-- All that a run writes.
unfoldable pub run_text : Bool → List FileRead → List ℕ
run_text check fs = texts_of check fs ++ summary_of check fs
