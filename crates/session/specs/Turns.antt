-- A replay by turns: lines are answered while the buffer has room, answers are written, and where no line is left more is read. Assumes
-- nothing.
use Rattle.std.specs.Prelude.{ℕ, ◌+◌, ◌<◌, Bool, true, false, List, [], ◌∷◌, ◌++◌, ◌≡◌, pos, length, take, replicate}
use Rattle.device.specs.Model.{fresh_model}
use Rattle.line_buffer.specs.Lines.{has_line}
use Rattle.session.specs.Line.{with_log}
use Rattle.session.specs.Feed.{Fed, fed}
use Rattle.session.specs.Flush.{written_now, after_writing, line_ending}
use Rattle.session.specs.Input.{goes_on, was_whole}
use Rattle.session.specs.Ends.{names_begun, counts_begun, last_said, outcome_of}
use Rattle.collection.specs.declared.Outcome.{Outcome}

-- ---- one turn

-- What is written in some turns, and what they leave.
pub record Turned : Type 0 where
  pub text : List ℕ
  pub fed : Fed

-- answers are written
unfoldable pub flushed : Fed → Fed
flushed f = record {
  replay = record {
    state = with_log f.replay.state record { counts = after_writing f.replay.state.log.counts; answers = f.replay.state.log.answers };
    names = f.replay.names;
  };
  numbers = f.numbers;
  left = f.left;
}

-- one turn
unfoldable pub turned : Fed → Turned
turned f = let g = fed (length f.left) f in record { text = written_now g.replay.state.log; fed = flushed g }

abbrev pub following : List ℕ → Turned → Turned
following text t = record { text = text ++ t.text; fed = t.fed }

abbrev pub with_bytes : List ℕ → Fed → Fed
with_bytes bytes f = record { replay = f.replay; numbers = f.numbers; left = bytes }

-- The first turn finds no bytes.
unfoldable pub start : List ℕ → Bool → Fed
start path check = record {
  replay = record {
    state = record {
      model = fresh_model;
      flash = replicate 8192 0xFF;
      differences = replicate 4096 (pos 0);
      probes = replicate 1024 0;
      log = record { counts = counts_begun (replicate 5120 0) path check (replicate 22 0); answers = replicate 163840 0 };
    };
    names = names_begun (replicate 5120 0) path;
  };
  numbers = replicate 512 0;
  left = [];
}

-- ---- turn by turn

-- another turn behind those before
unfoldable pub turned_on : Turned → Turned
turned_on t = following t.text (turned t.fed)

-- and what is to be answered after it
unfoldable pub reading : List ℕ → Turned → Turned
reading bytes t = record { text = t.text; fed = with_bytes bytes t.fed }

abbrev pub left_over : Turned → List ℕ
left_over t = t.fed.left

-- What a replay of a file reaches in so many turns, by the pieces that the file was read in so far, and how far reading has come: 0 the
-- file may have more bytes, 1 it has none, 2 it can't be read; and with nothing left to answer either, 3 of a file that was read to its
-- end, 4 of one that was not.
pub data Reached (path : List ℕ) (check : Bool) : ℕ → List (List ℕ) → ℕ → Turned → Type 0 where
  begun : Reached path check 0 [] 0 record { text = []; fed = start path check }
  -- A line is left: it is answered next.
  line : {n : ℕ} {pieces : List (List ℕ)} {state : ℕ} {t : Turned} → Reached path check n pieces state t → goes_on state ≡ true
      → has_line (left_over (turned_on t)) ≡ true → Reached path check (n + 1) pieces state (turned_on t)
  -- None is left, and the file is read on: of the start of a line 1,002 bytes at most are held, and the piece stands behind them;
  read : {n : ℕ} {pieces : List (List ℕ)} {t : Turned} → Reached path check n pieces 0 t
      → has_line (left_over (turned_on t)) ≡ false → (piece : List ℕ) → 0 < length piece
      → Reached path check (n + 1) (pieces ++ (piece ∷ [])) 0 (reading (take 1002 (left_over (turned_on t)) ++ piece) (turned_on t))
  -- at its end they get a line feed;
  ended : {n : ℕ} {pieces : List (List ℕ)} {t : Turned} → Reached path check n pieces 0 t
      → has_line (left_over (turned_on t)) ≡ false
      → Reached path check (n + 1) pieces 1 (reading (line_ending (take 1002 (left_over (turned_on t)))) (turned_on t))
  -- where it can't be read, they are left out.
  failed : {n : ℕ} {pieces : List (List ℕ)} {t : Turned} → Reached path check n pieces 0 t
      → has_line (left_over (turned_on t)) ≡ false → Reached path check (n + 1) pieces 2 (reading [] (turned_on t))
  -- None is left, and the file has no more.
  done : {n : ℕ} {pieces : List (List ℕ)} {t : Turned} → Reached path check n pieces 1 t
      → has_line (left_over (turned_on t)) ≡ false → Reached path check (n + 1) pieces 3 (reading [] (turned_on t))
  broken : {n : ℕ} {pieces : List (List ℕ)} {t : Turned} → Reached path check n pieces 2 t
      → has_line (left_over (turned_on t)) ≡ false → Reached path check (n + 1) pieces 4 (reading [] (turned_on t))

-- So much is reached, for some pieces and some text.
pub record ReachedBy (path : List ℕ) (check : Bool) (turns state : ℕ) (f : Fed) : Type 0 where
  pub pieces : List (List ℕ)
  pub text : List ℕ
  pub reached : Reached path check turns pieces state record { text = text; fed = f }

-- ---- a whole replay

-- What is handed back tells what such turns counted, for some pieces and some texts. They are made until nothing is left to read or to
-- answer, or so many that no replay makes more. There is no word here for what was read or written: that the pieces are the bytes which
-- the operating system handed over, and that the texts are those which it took, is to be read in the loop of `replay` (src/feed.rt).
pub record Replayed (path : List ℕ) (check : Bool) (outcome : Outcome) : Type 0 where
  pub turns : ℕ
  pub pieces : List (List ℕ)
  pub state : ℕ
  pub last : Turned
  pub reached : Reached path check turns pieces state last
  pub over : goes_on state ≡ true → turns ≡ 18446744073709551615
  pub told : outcome ≡ outcome_of (was_whole state) last.fed.replay.state.log.counts

-- All that these turns write, and behind them the last line of a file that was read to its end.
abbrev pub written_by : {path : List ℕ} {check : Bool} {outcome : Outcome} → Replayed path check outcome → List ℕ
written_by r = r.last.text ++ written_now (last_said (was_whole r.state) r.last.fed.replay.state.log)
