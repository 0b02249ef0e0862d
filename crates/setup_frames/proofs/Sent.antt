-- "Sending them to a fresh model gives the same sixteen words."
use Prim.Native.Nat.{ℕ, zero, suc, ◌+◌, ◌-◌, ◌*◌, ◌/◌, ◌≤◌}
use native.Mathlib.Nat.{add-zero}
use native.Mathlib.Omega.{arith}
use mathlib.Core.Bool.{true, false}
use mathlib.Core.List.{List, [], ◌∷◌}
use mathlib.Core.Path.{◌≡◌, refl, sym, ◌∙◌}
use lib.ListN.{length}
use borrow.Author.Tests.{ne_eqb}
use Rattle.unit.specs.Choice.{pick}
use Rattle.unit.proofs.Cases.{by-test}
use Rattle.calendar.specs.Words.{alarm_valid}
use Rattle.setup.specs.Setup.{factory, alarm_word}
use Rattle.frame.specs.Decoding.{decode_frame, write_frame}
use Rattle.frame.specs.declared.Decoded.TheVariants.{Write}
use Rattle.frame.proofs.Laws.{write-means, write_alone, whole-means, end-means}
use Rattle.device.specs.declared.Model.{Model}
use Rattle.device.specs.Event.{no_schedule, is_awaited, in_event}
use Rattle.device.specs.Model.{fresh_model, fresh_with, no_flight, no_temperature, is_sound, kind_busy, is_busy}
use Rattle.device.specs.Write.{setup_after, write_model}
use Rattle.device.specs.Call.{transaction}
use Rattle.device.specs.Reply.{reply}
use Rattle.device.specs.Parts.{write_reply}
use Rattle.device.specs.History.{after}
use Rattle.device.proofs.Sound.{fresh-sound, keeps-sound}
use Rattle.device.proofs.WriteTogether.{judged-by-alarm}
use Rattle.reply_parts.proofs.Decode.{reply-write}
use Rattle.setup_frames.specs.Frames.{differs, differs_before, starts, run_length, bytes_of, frame_at, frames_from, frames}
use Rattle.setup_frames.specs.Sending.{sent, setup_from}
use Rattle.setup_frames.proofs.Words.{Words}
use Rattle.setup_frames.proofs.Weight.{before-next, length-bytes, run-goes-on}
use Rattle.setup_frames.proofs.Reached.{reached, reached-none, reached-all, reached-same, reached-alarm, reached-write}

-- a model that takes writes
record Idle (m : Model) : Type 0 where
  sound-model : is_sound m ≡ true
  not-busy : is_busy m ≡ false

fresh-not-busy : is_busy fresh_model ≡ false
unfolding is_busy kind_busy is_awaited in_event fresh_model fresh_with no_flight no_temperature no_schedule
fresh-not-busy = refl

fresh-idle : Idle fresh_model
fresh-idle = record { sound-model = fresh-sound; not-busy = fresh-not-busy }

fresh-setup : fresh_model.setup ≡ factory
unfolding fresh_model fresh_with
fresh-setup = refl

-- a frame of n words from place i on is a write
module _ (s : List ℕ) (i n : ℕ) (some : 1 ≤ n) (fits : i + n ≤ 16) where
  frame-decoded : decode_frame ((0x34 + i) ∷ bytes_of s i n) 0 ≡ Write (0x34 + i) n
  unfolding decode_frame write_frame
  frame-decoded =
      let w = (write-means (0x34 + i)).1 (omega arith, omega arith) in
      let f : suc (length (bytes_of s i n)) - 1 ≡ 2 * n = omega (arith, length-bytes s i n) in
      let h : 2 * n / 2 ≡ n = omega arith in
      rw (
        ne_eqb (suc (length (bytes_of s i n))) 0 (λ z. omega arith),
        (write_alone (0x34 + i) w).0,
        w,
        f,
        (whole-means (2 * n)).1 (omega arith, omega arith),
        h,
        (end-means (0x34 + i) n 0x44).1 (omega arith),
      )

run-within : (s : List ℕ) (k i : ℕ) → run_length s i k ≤ k
unfolding run_length
run-within s zero i = omega arith
run-within s (suc k) i =
    by-test (differs s i) (λ d. rw d (omega (arith, run-within s k (suc i)))) (λ d. rw d (omega arith))

-- the model after it
module _ (s : List ℕ) (w : Words s) (v : alarm_valid (alarm_word s) ≡ true) where
  frame-sent :
      (m : Model) (i n : ℕ) →
      1 ≤ n →
      i + n ≤ 16 →
      Idle m →
      m.setup ≡ reached s i →
      (reply m (transaction ((0x34 + i) ∷ bytes_of s i n) [] [])).model ≡ write_model (bytes_of s i n) (0x34 + i) n m
  unfolding write_reply
  frame-sent m i n some fits idle at =
      let f : List ℕ = (0x34 + i) ∷ bytes_of s i n in
      let written : setup_after (bytes_of s i n) (0x34 + i) m.setup n ≡ reached s (i + n) =
      rw at (reached-write s w i n n (omega arith) fits)
      in
      let valid : alarm_valid (alarm_word (setup_after (bytes_of s i n) (0x34 + i) m.setup n)) ≡ true =
      rw written (reached-alarm s (i + n) w.sixteen v)
      in
      rw (
        ← reply-write m f [] [] idle.sound-model (0x34 + i) n (frame-decoded s i n some fits),
        idle.not-busy,
        judged-by-alarm m (bytes_of s i n) (0x34 + i) n idle.sound-model (omega arith),
        valid,
      )

  still-idle :
      (m : Model) (i n : ℕ) →
      1 ≤ n →
      i + n ≤ 16 →
      Idle m →
      m.setup ≡ reached s i →
      Idle (reply m (transaction ((0x34 + i) ∷ bytes_of s i n) [] [])).model
  unfolding is_busy write_model
  still-idle m i n some fits idle at =
      record {
        sound-model = keeps-sound m (transaction ((0x34 + i) ∷ bytes_of s i n) [] []) idle.sound-model;
        not-busy = rw (frame-sent m i n some fits idle at) idle.not-busy;
      }

  words-sent :
      (m : Model) (i n : ℕ) →
      1 ≤ n →
      i + n ≤ 16 →
      Idle m →
      m.setup ≡ reached s i →
      (reply m (transaction ((0x34 + i) ∷ bytes_of s i n) [] [])).model.setup ≡ reached s (i + n)
  unfolding write_model
  words-sent m i n some fits idle at =
      rw (frame-sent m i n some fits idle at, at) (reached-write s w i n n (omega arith) fits)

  -- The frames from place i on. Where a run goes on there, its words are there already.
  abbrev sent_to : ℕ → ℕ → ℕ
  sent_to i k = i + pick (differs_before s i) (run_length s i k) 0

  frames-sent :
      (k i : ℕ) →
      i + k ≡ 16 →
      (m : Model) →
      Idle m →
      m.setup ≡ reached s (sent_to i k) →
      (after m (sent (frames_from s i k))).setup ≡ s
  unfolding frames_from after run_length starts frame_at
  frames-sent zero i h m idle =
      let e : i + 0 ≡ 16 = omega arith in
      by-test (differs_before s i)
      (λ b. rw b (λ at. at ∙ rw e (reached-all s w.sixteen)))
      (λ b. rw b (λ at. at ∙ rw e (reached-all s w.sixteen)))
  frames-sent (suc k) i h m idle =
      let r : ℕ = run_length s (suc i) k in
      by-test (differs s i)
      (λ d. by-test (differs_before s i)
      (λ b. rw (d, b) (λ at.
      let e : i + suc r ≡ suc i + r = omega arith in
      frames-sent k (suc i) (omega arith) m idle (at ∙ rw (before-next s i, d, e))))
      (λ b. rw (d, b) (λ at.
      let n : ℕ = run_length s i (16 - i) in
      let long : n ≡ suc r = run-goes-on s i k (omega arith) d in
      let fits : i + n ≤ 16 = omega (arith, run-within s k (suc i)) in
      let from : m.setup ≡ reached s i = at ∙ rw (add-zero i) in
      let e : i + n ≡ suc i + r = omega arith in
      frames-sent k (suc i) (omega arith) (reply m (transaction ((0x34 + i) ∷ bytes_of s i n) [] [])).model
      (still-idle m i n (omega arith) fits idle from)
      (words-sent m i n (omega arith) fits idle from ∙ rw (before-next s i, d, e)))))
      (λ d.
      let e : suc i + 0 ≡ suc i = omega arith in
      let same : reached s (i + 0) ≡ reached s (sent_to (suc i) k) =
      rw (add-zero i, before-next s i, d, e) (reached-same s w.sixteen i (omega arith) d)
      in
      by-test (differs_before s i)
      (λ b. rw (d, b) (λ at. frames-sent k (suc i) (omega arith) m idle (at ∙ same)))
      (λ b. rw (d, b) (λ at. frames-sent k (suc i) (omega arith) m idle (at ∙ same))))

  pub same-words : setup_from (frames s) ≡ s
  unfolding setup_from frames differs_before
  same-words = frames-sent 16 0 refl fresh_model fresh-idle (fresh-setup ∙ sym (reached-none s))
