-- What a replay keeps stays in form, whatever the line is, under way or not. Assumes nothing.
use Prim.Native.Nat.{ℕ, zero, suc, ◌+◌, ◌-◌, min}
use mathlib.Core.Path.{◌≡◌, refl, ◌∙◌}
use mathlib.Core.Bool.{Bool, true, false, cond}
use mathlib.Core.List.{List, [], ◌∷◌, map}
use native.Mathlib.Omega.{arith}
use lib.Dec.{eqb, ltb}
use lib.IntN.{ℤ}
use lib.ListN.{length, get_or, set, take, length-set}
use Rattle.device.specs.declared.Model.{Model}
use Rattle.device.specs.Model.{is_sound, fresh_model}
use Rattle.device.specs.Call.{Call}
use Rattle.device.specs.Reply.{reply}
use Rattle.device.proofs.Sound.{fresh-sound, keeps-sound}
use Rattle.register_words.specs.Words.{CallFits}
use Rattle.difference.specs.Difference.{signed_of}
use Rattle.line.specs.declared.Content.{Content}
use Rattle.line.specs.Line.{line_reading}
use Rattle.item_state.specs.Log.{Log}
use Rattle.item_calls.specs.Lines.{WithFlash, told, transacted, bus_line, set_line, single_line, onward, ticked, ticks_part, ticks_begun, tick_line, at_begun, at_line, stretch_line, flight_line, temperature_line, beside, item_line, timed_line, call_line}
use Rattle.item_analysis.specs.Kept.{Kept, kept_one, kept_each}
use Rattle.item_analysis.specs.Lines.{ItemKept, record_words, record_line, analysis_line}
use Rattle.item_checks.specs.Close.{expected_of}
use Rattle.answer_text.specs.Line.{line_left}
use Rattle.answer_text.proofs.Analysis.{analysis-fits}
use Rattle.session.specs.Line.{State, Replay, with_log, line_done, line_begun, line_ended, content_answered, line_answered}
use Rattle.line_room.specs.Form.{Waits, InForm}
use Rattle.line_room.proofs.Alike.{Alike, alike_then, begun_kept, begun-names, done-alike, ended-alike}
use Rattle.line_room.proofs.Waits.{fresh-waits, keeps-waits}
use Rattle.line_room.proofs.Frames.{low-bytes, write_bytes_lem}

-- ---- the model

-- What holds of a fresh model, and every call keeps whose frame is one of bytes (`CallFits`), every line keeps.
module _ (P : Model → Type 0) (fresh : P fresh_model) (kept : (m : Model) (c : Call) → CallFits c → P m → P (reply m c).model) where
  pub ticked-keeps : (turns n before : ℕ) (m : Model) → P m → P (ticked turns n before m).model
  unfolding ticked onward
  ticked-keeps zero n before m h = h
  ticked-keeps (suc turns) n before m h =
      let span = min n 16384 in
      let next = (reply m (Call.stretch span)).model in
      go (eqb n 0) (ticked-keeps turns (n - span) (before + span) next (kept m (Call.stretch span) tt h))
    where
      go : (t : Bool) → P (ticked turns (n - min n 16384) (before + min n 16384) (reply m (Call.stretch (min n 16384))).model).model
          → P (cond t record { model = m; texts = [] }
          (onward (reply m (Call.stretch (min n 16384))) before (ticked turns (n - min n 16384) (before + min n 16384) (reply m (Call.stretch (min n 16384))).model))).model
      go true rest = h
      go false rest = rest

  part-keeps : (total : ℕ) (m : Model) (l : Log) → P m → P (ticks_part total m l).model
  unfolding ticks_part
  part-keeps total m l h =
      let left = min (get_or l.counts 21 0) total in
      let n = min left 1048576 in
      ticked-keeps n n (total - left) m h

  tick-keeps : (n : ℕ) (m : Model) (l : Log) → P m → P (tick_line n m l).model
  unfolding tick_line single_line told
  tick-keeps n m l h = go (eqb n 1)
    where
      go : (t : Bool) → P (cond t (single_line m l) (ticks_part n m (ticks_begun n l))).model
      go true = kept m Call.tick tt h
      go false = part-keeps n m (ticks_begun n l) h

  pub line-keeps : (content : Content) (numbers : List ℕ) (s : WithFlash) → P s.model → P (call_line content numbers s).model
  unfolding call_line timed_line beside item_line bus_line set_line transacted at_line stretch_line flight_line temperature_line told
  line-keeps Content.Nothing numbers s h = h
  line-keeps Content.TooLong numbers s h = h
  line-keeps Content.UnknownWord numbers s h = h
  line-keeps Content.BadNumber numbers s h = h
  line-keeps Content.WrongCount numbers s h = h
  line-keeps Content.Item numbers s h = fresh
  line-keeps (Content.Bus n) numbers s h = kept s.model _ (low-bytes (take n numbers)) h
  line-keeps (Content.BusOut size n) numbers s h = kept s.model _ (low-bytes (take n numbers)) h
  line-keeps (Content.Tick n) numbers s h = tick-keeps n s.model s.log h
  line-keeps (Content.Flight up down) numbers s h = kept s.model _ tt h
  line-keeps (Content.Temperature n) numbers s h = kept s.model _ tt h
  line-keeps Content.Int numbers s h = h
  line-keeps Content.Awaited numbers s h = h
  line-keeps Content.Regs numbers s h = h
  line-keeps (Content.Expect a n) numbers s h = h
  line-keeps Content.Show numbers s h = h
  line-keeps (Content.Set a n) numbers s h = kept s.model _ (write_bytes_lem a (take n numbers)) h
  line-keeps (Content.At t) numbers s h = part-keeps t s.model (at_begun t s.log) h
  line-keeps (Content.Stretch n) numbers s h = kept s.model (Call.stretch n) tt h
  line-keeps Content.Frames numbers s h = h
  line-keeps (Content.Probe n) numbers s h = h
  line-keeps Content.Degrees numbers s h = h
  line-keeps (Content.Record n) numbers s h = h
  line-keeps (Content.Listing old first) numbers s h = h
  line-keeps (Content.Quietest n) numbers s h = h

-- ---- the record

one-long : {A : Type 0} (x : A) (k : Kept A) → length (kept_one x k).values ≡ length k.values
unfolding kept_one
one-long x k = go (ltb k.used (length k.values))
  where
    go : (t : Bool) → length (cond t record { values = set k.values k.used x; used = k.used + 1 } k).values ≡ length k.values
    go true = length-set k.values k.used x
    go false = refl

each_long : {A : Type 0} (xs : List A) (k : Kept A) → length (kept_each xs k).values ≡ length k.values
unfolding kept_each
each_long [] k = refl
each_long (x ∷ xs) k = each_long xs (kept_one x k) ∙ one-long x k

record-long : (ws : List ℕ) (differences : List ℤ) (l : Log) → length (record_line ws record { differences = differences; log = l }).differences ≡ length differences
unfolding record_line
record-long ws differences l = each_long (map signed_of ws) record { values = differences; used = get_or l.counts 10 0 }

analysis-long : (content : Content) (numbers : List ℕ) (m : Model) (s : ItemKept) → length (analysis_line content numbers m s).differences ≡ length s.differences
unfolding analysis_line
analysis-long Content.Nothing numbers m s = refl
analysis-long Content.TooLong numbers m s = refl
analysis-long Content.UnknownWord numbers m s = refl
analysis-long Content.BadNumber numbers m s = refl
analysis-long Content.WrongCount numbers m s = refl
analysis-long Content.Item numbers m s = refl
analysis-long (Content.Bus n) numbers m s = refl
analysis-long (Content.BusOut size n) numbers m s = refl
analysis-long (Content.Tick n) numbers m s = refl
analysis-long (Content.Flight up down) numbers m s = refl
analysis-long (Content.Temperature n) numbers m s = refl
analysis-long Content.Int numbers m s = refl
analysis-long Content.Awaited numbers m s = refl
analysis-long Content.Regs numbers m s = refl
analysis-long (Content.Expect a n) numbers m s = refl
analysis-long Content.Show numbers m s = refl
analysis-long (Content.Set a n) numbers m s = refl
analysis-long (Content.At t) numbers m s = refl
analysis-long (Content.Stretch n) numbers m s = refl
analysis-long Content.Frames numbers m s = refl
analysis-long (Content.Probe n) numbers m s = refl
analysis-long Content.Degrees numbers m s = refl
analysis-long (Content.Record n) numbers m s = record-long (record_words m numbers n) s.differences s.log
analysis-long (Content.Listing old first) numbers m s = refl
analysis-long (Content.Quietest n) numbers m s = refl

-- ---- a line that was read

module _ (content : Content) (expected : List (List ℕ)) (text numbers : List ℕ) (r : Replay) (i : InForm r) where
  abbrev begun : Log
  begun = (line_begun content text r.names r.state.log).log

  abbrev left : Content
  left = (line_begun content text r.names r.state.log).content

  abbrev names : List ℕ
  names = (line_begun content text r.names r.state.log).names

  abbrev there : State
  there = with_log r.state begun

  first : Alike r.state.log begun
  first = begun_kept content text r.names r.state.log

  whole : Alike r.state.log (line_ended expected names (line_done left numbers there).log)
  whole =
      alike_then first
      (alike_then (done-alike numbers there (omega (arith, first.counts, i.counts)) i.fit left) (ended-alike expected names (line_done left numbers there).log))

  -- Of every content, whatever room there is in the buffer.
  pub content-kept : InForm (content_answered content expected text numbers r)
  unfolding content_answered line_done line_left
  content-kept = record {
    counts = whole.counts ∙ i.counts;
    places = whole.answers ∙ i.places;
    names = begun-names content text r.names r.state.log ∙ i.names;
    sound = line-keeps (λ (m : Model). is_sound m ≡ true) fresh-sound (λ m c _. keeps-sound m c) left numbers _ i.sound;
    waits = line-keeps Waits fresh-waits (λ m c _. keeps-waits m c) left numbers _ i.waits;
    many = analysis-long left numbers _ _ ∙ i.many;
    fit = analysis-fits left numbers _ _ i.fit;
  }

-- What is kept stays in form behind every line, of whatever bytes.
pub form-kept : (text numbers : List ℕ) (r : Replay) → InForm r → InForm (line_answered text numbers r)
unfolding line_answered
form-kept text numbers r i =
    content-kept (line_reading numbers text).content (expected_of text) text (line_reading numbers text).numbers r i
