-- The model of a text is sound throughout. Assumes nothing.
use Prim.Native.Nat.{ℕ, zero, suc, ◌+◌, ◌-◌, min}
use mathlib.Core.Path.{◌≡◌}
use mathlib.Core.Bool.{Bool, true}
use mathlib.Core.List.{List, [], ◌∷◌}
use lib.Dec.{eqb}
use lib.ListN.{get_or}
use Rattle.unit.proofs.Cases.{by-test}
use Rattle.device.specs.declared.Model.{Model}
use Rattle.device.specs.Model.{is_sound}
use Rattle.device.specs.Call.{Call}
use Rattle.device.specs.Reply.{reply}
use Rattle.device.proofs.Sound.{fresh-sound, keeps-sound}
use Rattle.line.specs.declared.Content.{Content}
use Rattle.line.specs.Line.{line_reading}
use Rattle.line_buffer.specs.Lines.{text_lines, each_line}
use Rattle.item_state.specs.Log.{Log}
use Rattle.item_calls.specs.Lines.{WithFlash, call_line, timed_line, beside, item_line, bus_line, set_line, transacted, onward, ticked, single_line, tick_line, ticks_part, ticks_begun, at_begun, at_line, stretch_line, flight_line, temperature_line, told}
use Rattle.item_checks.specs.Fault.{left_of}
use Rattle.session.specs.Line.{State, with_log, line_done}
use Rattle.line_text.specs.Text.{head_of}
use Rattle.replay_text.specs.Replay.{TickLine, tick_lines, ticks_done, done_by, opening, done_whole, Page, content_page, page_line, first_page, last_page}

abbrev Sound : Model → Type 0
Sound m = is_sound m ≡ true

-- ---- one line

sound-ticks : (turns n before : ℕ) (m : Model) → Sound m → Sound (ticked turns n before m).model
unfolding ticked onward
sound-ticks zero n before m sound = sound
sound-ticks (suc turns) n before m sound =
    let span = min n 16384 in
    let rest = sound-ticks turns (n - span) (before + span) (reply m (Call.stretch span)).model (keeps-sound m (Call.stretch span) sound) in
    by-test (eqb n 0) (λ none. rw none sound) (λ some. rw some rest)

sound-part : (total : ℕ) (m : Model) (l : Log) → Sound m → Sound (ticks_part total m l).model
unfolding ticks_part
sound-part total m l sound =
    let left = min (get_or l.counts 21 0) total in
    sound-ticks (min left 1048576) (min left 1048576) (total - left) m sound

sound-tick : (n : ℕ) (m : Model) (l : Log) → Sound m → Sound (tick_line n m l).model
unfolding tick_line single_line told
sound-tick n m l sound =
    by-test (eqb n 1) (λ one. rw one (keeps-sound m Call.tick sound)) (λ more. rw more (sound-part n m (ticks_begun n l) sound))

sound-call : (content : Content) (numbers : List ℕ) (s : WithFlash) → Sound s.model → Sound (call_line content numbers s).model
unfolding call_line timed_line beside item_line bus_line set_line transacted at_line stretch_line flight_line temperature_line told
sound-call Content.Nothing numbers s sound = sound
sound-call Content.TooLong numbers s sound = sound
sound-call Content.UnknownWord numbers s sound = sound
sound-call Content.BadNumber numbers s sound = sound
sound-call Content.WrongCount numbers s sound = sound
sound-call Content.Item numbers s sound = fresh-sound
sound-call (Content.Bus n) numbers s sound = keeps-sound s.model _ sound
sound-call (Content.BusOut size n) numbers s sound = keeps-sound s.model _ sound
sound-call (Content.Tick n) numbers s sound = sound-tick n s.model s.log sound
sound-call (Content.Flight up down) numbers s sound = keeps-sound s.model _ sound
sound-call (Content.Temperature n) numbers s sound = keeps-sound s.model _ sound
sound-call Content.Int numbers s sound = sound
sound-call Content.Awaited numbers s sound = sound
sound-call Content.Regs numbers s sound = sound
sound-call (Content.Expect a n) numbers s sound = sound
sound-call Content.Show numbers s sound = sound
sound-call (Content.Set a n) numbers s sound = keeps-sound s.model _ sound
sound-call (Content.At t) numbers s sound = sound-part t s.model (at_begun t s.log) sound
sound-call (Content.Stretch n) numbers s sound = keeps-sound s.model (Call.stretch n) sound
sound-call Content.Frames numbers s sound = sound
sound-call (Content.Probe n) numbers s sound = sound
sound-call Content.Degrees numbers s sound = sound
sound-call (Content.Record n) numbers s sound = sound
sound-call (Content.Listing old first) numbers s sound = sound
sound-call (Content.Quietest n) numbers s sound = sound

sound-done : (ts : List TickLine) (content : Content) (numbers : List ℕ) (s : State) → Sound s.model → Sound (done_by ts content numbers s).model
unfolding done_by line_done ticks_done
sound-done [] content numbers s sound = sound-call content numbers record { model = s.model; flash = s.flash; log = s.log } sound
sound-done (t ∷ ts) content numbers s sound = sound-ticks t.ticks t.ticks t.before s.model sound

-- A line leaves a sound model sound.
pub sound-line : (line : List ℕ) (p : Page) → is_sound p.replay.state.model ≡ true → is_sound (page_line line p).replay.state.model ≡ true
unfolding page_line content_page done_whole
sound-line line p sound =
    let read = line_reading p.numbers line in
    let counts = (head_of p.replay).counts in
    let left = left_of read.content counts in
    let after = (opening read.content line p.replay.names counts).counts in
    sound-done (tick_lines left after) left read.numbers (with_log p.replay.state record { counts = after; answers = [] }) sound

-- ---- a text

pub sound-lines : (ls : List (List ℕ)) (p : Page) → is_sound p.replay.state.model ≡ true → is_sound (each_line page_line ls p).replay.state.model ≡ true
unfolding each_line
sound-lines [] p sound = sound
sound-lines (l ∷ ls) p sound = sound-lines ls (page_line l p) (sound-line l p sound)

pub sound-first : (path : List ℕ) (check : Bool) → is_sound (first_page path check).replay.state.model ≡ true
unfolding first_page
sound-first path check = fresh-sound

pub sound-text : (path : List ℕ) (check : Bool) (text : List ℕ) → is_sound (last_page path check text).replay.state.model ≡ true
unfolding last_page
sound-text path check text = sound-lines (text_lines text) (first_page path check) (sound-first path check)
