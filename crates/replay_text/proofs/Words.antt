-- The registers of a text's model read as words of 16 bits throughout, and so what `regs` and `show` print of them reads back. Assumes
-- nothing.
use Prim.Native.Nat.{ℕ, ◌+◌, ◌*◌, ◌/◌, ◌%◌, ◌<◌}
use mathlib.Core.Path.{◌≡◌}
use mathlib.Core.Bool.{Bool, true}
use mathlib.Core.List.{List, [], ◌∷◌}
use native.Mathlib.Omega.{arith}
use lib.Dec.{ltb}
use lib.ListN.{get_or}
use Rattle.unit.proofs.Cases.{by-test}
use Rattle.hit.specs.Words.{no_quanta}
use Rattle.hit.specs.Difference.{difference_mean, port_mean}
use Rattle.numeral.specs.Digit.{digits}
use Rattle.numeral.specs.Read.{read_hex}
use Rattle.device.specs.declared.Model.{Model}
use Rattle.device.specs.Model.{is_sound}
use Rattle.device.specs.Question.{peek}
use Rattle.device.specs.Registers.{register_word}
use Rattle.device.proofs.RegisterMeaning.{reads-ups, reads-downs, reads-difference, reads-mean, reads-means, reads-ports}
use Rattle.device.proofs.Sound.{bounds_of}
use Rattle.setup_frames.specs.Frames.{frames}
use Rattle.setup_frames.specs.Sending.{Brings}
use Rattle.setup_frames.proofs.Brought.{frames-bring}
use Rattle.register_words.specs.Words.{Words}
use Rattle.register_words.proofs.Kept.{fresh-words}
use Rattle.register_words.proofs.Registers.{difference-mean-small, port-mean-small, up_small, down-small, port-small, setup-small, register-small}
use Rattle.line.specs.declared.Content.{Content}
use Rattle.line.specs.Line.{line_reading}
use Rattle.line_buffer.specs.Lines.{text_lines, each_line}
use Rattle.wording.specs.Wording.{Texts}
use Rattle.item_state.specs.Told.{told_value, read_word}
use Rattle.page.specs.Row.{register_row, pair_row}
use Rattle.page.specs.Results.{pair_word}
use Rattle.page.proofs.Meaning.{word_back, pair-back}
use Rattle.page.proofs.Values.{pair-shown}
use Rattle.item_questions.proofs.Meaning.{reads-back}
use Rattle.item_checks.specs.Fault.{left_of}
use Rattle.session.specs.Line.{State, with_log, line_done}
use Rattle.line_text.specs.Text.{head_of}
use Rattle.line_room.proofs.RegisterWords.{ticked-words, call-words}
use Rattle.replay_text.specs.Replay.{TickLine, tick_lines, ticks_done, done_by, opening, done_whole, Page, content_page, page_line, first_page, last_page}
use Rattle.replay_text.proofs.Sound.{sound-first, sound-lines}
use Rattle.std.specs.Prelude.{Some}

-- ---- one line

words-done : (ts : List TickLine) (content : Content) (numbers : List ℕ) (s : State) → Words s.model → Words (done_by ts content numbers s).model
unfolding done_by line_done ticks_done
words-done [] content numbers s w = call-words content numbers record { model = s.model; flash = s.flash; log = s.log } w
words-done (t ∷ ts) content numbers s w = ticked-words t.ticks t.ticks t.before s.model w

-- A line keeps the words that the registers need.
pub words-line : (line : List ℕ) (p : Page) → Words p.replay.state.model → Words (page_line line p).replay.state.model
unfolding page_line content_page done_whole
words-line line p w =
    let read = line_reading p.numbers line in
    let counts = (head_of p.replay).counts in
    let left = left_of read.content counts in
    let after = (opening read.content line p.replay.names counts).counts in
    words-done (tick_lines left after) left read.numbers (with_log p.replay.state record { counts = after; answers = [] }) w

-- ---- a text

lines-words : (ls : List (List ℕ)) (p : Page) → Words p.replay.state.model → Words (each_line page_line ls p).replay.state.model
unfolding each_line
lines-words [] p w = w
lines-words (l ∷ ls) p w = lines-words ls (page_line l p) (words-line l p w)

first-words : (path : List ℕ) (check : Bool) → Words (first_page path check).replay.state.model
unfolding first_page
first-words path check = fresh-words

-- Behind any lines, and so before any line of a text and behind it.
pub words_lines : (path : List ℕ) (check : Bool) (ls : List (List ℕ)) → Words (each_line page_line ls (first_page path check)).replay.state.model
words_lines path check ls = lines-words ls (first_page path check) (first-words path check)

pub words-text : (path : List ℕ) (check : Bool) (text : List ℕ) → Words (last_page path check text).replay.state.model
unfolding last_page
words-text path check text = words_lines path check (text_lines text)

-- ---- the registers

module _ (path : List ℕ) (check : Bool) (ls : List (List ℕ)) where
  abbrev model : Model
  model = (each_line page_line ls (first_page path check)).replay.state.model

  sound : is_sound model ≡ true
  sound = sound-lines ls (first_page path check) (sound-first path check)

  -- every register, at any address
  pub registers-small : (a : ℕ) → register_word model a < 65536
  registers-small a = register-small model (words_lines path check ls) sound a

  -- what the lines `regs`, `expect` and `show` read of it
  pub read_small : (a : ℕ) → read_word model a < 65536
  unfolding read_word told_value peek
  read_small a =
      rw sound
      (by-test (ltb a 0xB0) (λ e. rw e (omega arith))
      (λ e. by-test (ltb 0xFF a) (λ f. rw (e, f) (omega arith)) (λ f. rw (e, f) (registers-small a))))

  -- A word's four digits, as `regs` prints them, read back as it.
  pub registers-back : (a : ℕ) → read_hex 4 4 (digits 16 4 (read_word model a)) ≡ Some (read_word model a)
  registers-back a = reads-back (read_word model a) (read_small a)

  -- So do the words of the rows of `show`, of one register and of a pair.
  pub row_back : (label : List ℕ) (a : ℕ) (meaning : Texts) → read_hex 4 4 (get_or (register_row label (read_word model a) meaning) 1 []) ≡ Some (read_word model a)
  row_back label a meaning = word_back label (read_word model a) meaning (read_small a)

  pub pair-row-back : (label : List ℕ) (a : ℕ) (meaning : Texts)
      → (read_hex 4 4 (get_or (pair_row label (pair_word model a) meaning) 1 []) ≡ Some (pair_word model a / 65536))
      × (read_hex 4 4 (get_or (pair_row label (pair_word model a) meaning) 3 []) ≡ Some (pair_word model a % 65536))
  unfolding pair_word
  pair-row-back label a meaning = pair-back label (pair_word model a) meaning (omega arith)

  -- The pairs of `show` have the words of the results: HIT 1 to 6 and AVG of each direction, TOF_DIFF, T1 to T4, and the averages.
  pub ups-shown : (i : ℕ) → i < 7 → pair_word model (0xC5 + 2 * i) ≡ get_or model.flight.ups i 0
  ups-shown i h =
      pair-shown model sound (0xC5 + 2 * i) (get_or model.flight.ups i 0) (omega arith) (omega arith) (reads-ups model i h)
      (up_small model (words_lines path check ls) i)

  pub downs-shown : (i : ℕ) → i < 7 → pair_word model (0xD4 + 2 * i) ≡ get_or model.flight.downs i 0
  downs-shown i h =
      pair-shown model sound (0xD4 + 2 * i) (get_or model.flight.downs i 0) (omega arith) (omega arith) (reads-downs model i h)
      (down-small model (words_lines path check ls) i)

  pub difference-shown : pair_word model 0xE2 ≡ model.flight.difference
  difference-shown =
      pair-shown model sound 0xE2 model.flight.difference (omega arith) (omega arith) (reads-difference model)
      (words_lines path check ls).difference

  pub ports-shown : (i : ℕ) → i < 4 → pair_word model (0xE7 + 2 * i) ≡ get_or model.temperature.ports i 0
  ports-shown i h =
      pair-shown model sound (0xE7 + 2 * i) (get_or model.temperature.ports i 0) (omega arith) (omega arith) (reads-ports model i h)
      (port-small model (words_lines path check ls) i)

  pub mean-shown : pair_word model 0xE5 ≡ difference_mean model.flight.sum model.flight.schedule.good
  mean-shown =
      pair-shown model sound 0xE5 (difference_mean model.flight.sum model.flight.schedule.good) (omega arith) (omega arith)
      (reads-mean model) (difference-mean-small model.flight.sum model.flight.schedule.good)

  pub means-shown : (i : ℕ) → i < 4
      → pair_word model (0xF0 + 2 * i) ≡ port_mean (get_or model.temperature.sums i no_quanta) model.temperature.schedule.good
  means-shown i h =
      pair-shown model sound (0xF0 + 2 * i) (port_mean (get_or model.temperature.sums i no_quanta) model.temperature.schedule.good)
      (omega arith) (omega arith) (reads-means model i h)
      (port-mean-small (get_or model.temperature.sums i no_quanta) model.temperature.schedule.good)

  -- The frames that a line `frames` prints here bring a fresh model to this set-up, and no list of write frames does so in fewer bytes.
  pub frames-brought : Brings (frames model.setup) model.setup
  frames-brought =
      frames-bring model.setup
      (record { sixteen = (words_lines path check ls).setup.long; below = λ i h. setup-small model (words_lines path check ls) i })
      (bounds_of model sound).alarm
