-- Frames that stand one then the other, and the lines that they are. Assumes nothing.
use Prim.Native.Nat.{ℕ, suc, ◌+◌, ◌≤◌, ◌<◌}
use mathlib.Core.Bool.{true}
use mathlib.Core.List.{List, [], map}
use mathlib.Core.Path.{◌≡◌, ap, sym, ◌∙◌}
use native.Mathlib.Numerals.{add-one}
use native.Mathlib.Omega.{arith}
use lib.ListN.{length, get_or, take, drop, drop_of_length-le}
use lib.Seq.{drop-cons}
use Rattle.device.specs.declared.Model.{Model}
use Rattle.device.specs.Model.{is_sound}
use Rattle.device.specs.Call.{accepted, first_of}
use Rattle.setup_frames.specs.Frames.{frames_verdict, answer_by, Written, frames, all_bytes}
use Rattle.setup_frames.specs.Sending.{cut, frames_left}
use Rattle.setup_frames.proofs.Meaning.{frames-left}
use Rattle.text.specs.Text.{Text, ended, ended_each}
use Rattle.text.specs.OwnPut.{Puts}
use Rattle.text.proofs.Putting.{puts_then}
use Rattle.item_answer.specs.Words.{frame_line}
use Rattle.item_keep_code.specs.OwnFrames.{Holds}
use Rattle.item_keep_code.proofs.Printing.{Completes, completed}
use Rattle.refusal.specs.declared.Refusal.{Refusal}
use Rattle.refusal.specs.Number.{number_told}
use Rattle.std.specs.Prelude.{Result, Ok, Err}
use Rattle.setup_frames.specs.declared.put.Counts.{Counts}

-- A frame more.
module _ (ns : List ℕ) (i : ℕ) (left : List ℕ) where
  pub frames-on : {n : ℕ} {after f l l' l₀ : List ℕ} {at r at₀ : ℕ} {whole : Text} →
      i < length ns →
      n ≡ get_or ns i 0 →
      f ≡ take n left →
      Puts l at (ended (frame_line f)) r l' →
      Completes l at (ended_each (map frame_line (cut (drop i ns) left))) l₀ at₀ whole →
      after ≡ drop n left →
      Completes l' r (ended_each (map frame_line (cut (drop (i + 1) ns) after))) l₀ at₀ whole
  unfolding ended_each cut
  frames-on {n} {after} {f} {l} {l'} {l₀} {at} {r} {at₀} {whole} less long is put done past s k more =
      let then : Puts l' r (ended_each (map frame_line (cut (drop (suc i) ns) (drop n left)))) s k = rw (past, add-one i) at more in
      done s k (rw (drop-cons ns i 0 less, ← long, ← is) (puts_then put then))

  pub frames-end : {l l₀ : List ℕ} {at at₀ : ℕ} {whole : Text} → length ns ≤ i →
      Completes l at (ended_each (map frame_line (cut (drop i ns) left))) l₀ at₀ whole → Puts l₀ at₀ whole at l
  unfolding ended_each cut
  frames-end all done = completed (rw (drop_of_length-le ns all) at done)

-- Buffers of 33 and 8 places hold the frames of every sound model.
module _ (m : Model) (sound : is_sound m ≡ true) {bytes lengths bytes' lengths' : List ℕ} {r : Result Counts Refusal}
    (long : length bytes ≡ 33) (many : length lengths ≡ 8) (wrote : Written m bytes lengths r bytes' lengths') where
  verdict : frames_verdict m 33 8 ≡ accepted
  unfolding frames_verdict first_of
  verdict = rw sound

  told : r ≡ Ok (record { bytes = (length (all_bytes (frames m.setup))); frames = (length (frames m.setup)) })
  unfolding answer_by
  told = rw (long, many, verdict) at wrote.answer.same

  number : number_told r ≡ []
  number = rw told

  abbrev frames_in : Result Counts Refusal → ℕ
  frames_in (Ok c) = c.frames
  frames_in (Err r) = 0

  counts : {a b c d : ℕ} → ◌≡◌ {A = Result Counts Refusal} (Ok (record { bytes = a; frames = b })) (Ok (record { bytes = c; frames = d })) → b ≡ d
  counts e = ap frames_in e

  pub frames-held : {used count : ℕ} → r ≡ Ok (record { bytes = used; frames = count }) → Holds m bytes' lengths' used count
  unfolding frames_left
  frames-held {used} {count} is = record {
    held = rw is at (frames-left m bytes lengths bytes' lengths' r wrote number);
    counted = counts (sym is ∙ told);
  }

  pub not-refused : {G : Type 0} {n : Refusal} → r ≡ Err n → G
  not-refused is = let e = sym is ∙ told in let z : ◌≡◌ {A = ℕ} 0 1 = cc in absurd (omega arith)
