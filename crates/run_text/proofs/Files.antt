-- What is written for one file, however it is read in pieces. Assumes nothing.
use Prim.Native.Nat.{ℕ, ◌<◌}
use mathlib.Core.Bool.{Bool, true, false, cond}
use mathlib.Core.List.{List, [], ◌++◌, append-nil}
use mathlib.Core.Path.{◌≡◌, refl, sym, ap, ◌∙◌}
use lib.ListN.{length}
use Rattle.unit.proofs.Cases.{by-test}
use Rattle.line_buffer.specs.Lines.{whole_text, text_lines, lines_in, each_line}
use Rattle.collection.specs.declared.Outcome.{Outcome}
use Rattle.session.specs.Flush.{written_now}
use Rattle.session.specs.Ends.{last_said, outcome_of}
use Rattle.session.specs.Turns.{Replayed, written_by}
use Rattle.replay_text.specs.Replay.{page_line, first_page, last_page, replay_text}
use Rattle.replay_text.proofs.Outcome.{whole-told, replay-written, replay-told}
use Rattle.replay_text.proofs.Broken.{replay-broken-written, replay-broken}
use Rattle.file_replay.specs.Files as files
use Rattle.file_replay.specs.Files.{Came, headed, written_for}
use Rattle.run_text.specs.Run.{FileRead, lines_read, page_of, answers_of, text_of, came_to}

-- What was read of a file, by the pieces of its replay, and nothing of one that can't be opened.
abbrev pub was_opened : {name : List ℕ} {check : Bool} {came : Outcome} → Came name check came → Bool
was_opened (files.unread e) = false
was_opened (files.replayed r) = true

abbrev pub bytes_read : {name : List ℕ} {check : Bool} {came : Outcome} → Came name check came → List ℕ
bytes_read (files.unread e) = []
bytes_read (files.replayed r) = whole_text r.pieces

abbrev pub was_read : {name : List ℕ} {check : Bool} {came : Outcome} → Came name check came → Bool
was_read (files.unread e) = false
was_read {came = came} (files.replayed r) = came.whole

abbrev pub read_by : (name : List ℕ) {check : Bool} {came : Outcome} → Came name check came → FileRead
read_by name c = record { name = name; opened = was_opened c; bytes = bytes_read c; whole = was_read c }

-- Less than 4,500 terabytes were read of it.
abbrev pub Few : FileRead → Type 0
Few f = length f.bytes < 4500000000000000

-- ---- one replay

module _ (name : List ℕ) (check : Bool) {came : Outcome} (r : Replayed name check came) (few : length (whole_text r.pieces) < 4500000000000000) where
  abbrev read : FileRead
  read = record { name = name; opened = true; bytes = whole_text r.pieces; whole = came.whole }

  written-so : {t : Bool} → came.whole ≡ t
      → written_by r ≡ r.last.text ++ written_now (last_said t r.last.fed.replay.state.log)
  written-so e =
      ap (λ (t : Bool). r.last.text ++ written_now (last_said t r.last.fed.replay.state.log))
      (whole-told name check r.state r.last.fed.replay.state.log.counts r.told e)

  -- What it writes is the definition's text for the bytes that were read,
  pub replay-answers : written_by r ≡ answers_of check read
  unfolding answers_of page_of lines_read replay_text last_page
  replay-answers =
      by-test came.whole
      (λ all. written-so all ∙ rw all (replay-written name check r all))
      (λ part. written-so part ∙ rw (part, append-nil (each_line page_line (lines_in (whole_text r.pieces)) (first_page name check)).text) (replay-broken-written name check r few part))

  abbrev counted_as : Bool → Outcome
  counted_as t =
      let bytes = whole_text r.pieces in
      outcome_of t (each_line page_line (cond t (text_lines bytes) (lines_in bytes)) (first_page name check)).replay.state.log.counts

  -- and it comes to what the definition counts.
  pub replay-counts : came ≡ outcome_of came.whole (page_of check read).replay.state.log.counts
  unfolding page_of lines_read last_page
  replay-counts =
      by-test came.whole
      (λ all. replay-told name check r all ∙ ap counted_as (sym all))
      (λ part. replay-broken name check r few part ∙ ap counted_as (sym part))

-- ---- one file, opened or not

pub file-written : (heading : Bool) (name : List ℕ) (check : Bool) {came : Outcome} (c : Came name check came) → Few (read_by name c)
    → written_for heading c ≡ text_of heading check (read_by name c)
unfolding written_for text_of
file-written heading name check (files.unread e) few = refl
file-written heading name check (files.replayed r) few = ap (λ (t : List ℕ). headed heading name ++ t) (replay-answers name check r few)

pub file-came : (name : List ℕ) (check : Bool) {came : Outcome} (c : Came name check came) → Few (read_by name c)
    → came ≡ came_to check (read_by name c)
unfolding came_to
file-came name check (files.unread e) few = e
file-came name check (files.replayed r) few = replay-counts name check r few
