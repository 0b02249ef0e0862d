-- What one line leaves, from its bytes on. Assumes nothing.
use Rattle.std.specs.Prelude.{ℕ, cond, List, eqb, ℤ, get_or}
use Rattle.device.specs.declared.Model.{Model}
use Rattle.line.specs.declared.Content.{Content}
use Rattle.line.specs.Line.{line_reading}
use Rattle.item_state.specs.Log.{Log}
use Rattle.item_calls.specs.Lines.{WithFlash, call_line}
use Rattle.answer_text.specs.Line.{line_left}
use Rattle.item_checks.specs.Open.{Opened, opened}
use Rattle.item_checks.specs.Close.{expected_of, kept_briefly, closed}

-- What a replay keeps from line to line: the model, the user flash, the record, the probe table, and the counts with the answers.
pub record State : Type 0 where
  pub model : Model
  pub flash : List ℕ
  pub differences : List ℤ
  pub probes : List ℕ
  pub log : Log

-- ---- the line's own answer

-- Each line is a call on the model, or a question, or one on the record and the probe table (`line_left`).
abbrev pub with_flash : State → WithFlash
with_flash s = record { model = s.model; flash = s.flash; log = s.log }

unfoldable pub line_done : Content → List ℕ → State → State
line_done content numbers s =
    let c = call_line content numbers (with_flash s) in
    let k = line_left content numbers (with_flash s) s.differences s.probes in
    record { model = c.model; flash = c.flash; differences = k.differences; probes = k.probes; log = k.log }

-- ---- what stands around it

-- A line of ticks that is answered in parts is under way while count 21 is not 0. It is begun once: what stands before its answer, then
-- the answer's first part
unfoldable pub line_begun : Content → List ℕ → List ℕ → Log → Opened
line_begun content text names l =
    cond (eqb (get_or l.counts 21 0) 0) (opened content text names l) record { content = content; names = names; log = l }

-- and it is ended once, behind the last part. Behind each part a check keeps no more of the answer than it shows.
unfoldable pub line_ended : List (List ℕ) → List ℕ → Log → Log
line_ended expected names l =
    let k = kept_briefly l in cond (eqb (get_or k.counts 21 0) 0) (closed expected names k) k

-- What is kept from line to line with the names of the file and the item.
pub record Replay : Type 0 where
  pub state : State
  pub names : List ℕ

abbrev pub with_log : State → Log → State
with_log s l = record { model = s.model; flash = s.flash; differences = s.differences; probes = s.probes; log = l }

-- A line that was read: its content, the words that it expects of its answer, its bytes and its numbers
unfoldable pub content_answered : Content → List (List ℕ) → List ℕ → List ℕ → Replay → Replay
content_answered content expected text numbers r =
    let b = line_begun content text r.names r.state.log in
    let s = line_done b.content numbers (with_log r.state b.log) in
    record { state = with_log s (line_ended expected b.names s.log); names = b.names }

-- ---- a line's bytes

-- All that a line leaves; the numbers of the line before stand in the buffer that its own are read into.
unfoldable pub line_answered : List ℕ → List ℕ → Replay → Replay
line_answered text numbers r =
    let read = line_reading numbers text in content_answered read.content (expected_of text) text read.numbers r
