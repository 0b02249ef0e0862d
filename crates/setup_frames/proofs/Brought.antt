-- Note 10 end to end: from the answer and the buffers that the call leaves to the same sixteen words in a fresh model.
use Prim.Native.Nat.{ℕ, zero, suc, ◌+◌}
use native.Mathlib.Omega.{arith}
use mathlib.Core.Bool.{true}
use mathlib.Core.List.{List, [], ◌∷◌}
use mathlib.Core.Path.{◌≡◌, refl}
use Rattle.unit.proofs.Cases.{by-test}
use Rattle.calendar.specs.Words.{alarm_valid}
use Rattle.setup.specs.Setup.{alarm_word}
use Rattle.frame.proofs.Laws.{write-means}
use Rattle.frame.specs.Frame.{is_write}
use Rattle.device.specs.declared.Model.{Model}
use Rattle.device.specs.Model.{is_sound}
use Rattle.device.specs.Call.{opcode}
use Rattle.device.proofs.Sound.{bounds_of}
use Rattle.setup_frames.specs.Frames.{starts, frame_at, frames_from, frames, Written}
use Rattle.setup_frames.specs.Sending.{only_writes, frames_left, Brings}
use Rattle.setup_frames.proofs.Words.{Words}
use Rattle.setup_frames.proofs.Outcome.{number-0}
use Rattle.setup_frames.proofs.Least.{least}
use Rattle.setup_frames.proofs.Sent.{same-words}
use Rattle.setup_frames.proofs.Meaning.{frames-left}
use Rattle.refusal.specs.declared.Refusal.{Refusal}
use Rattle.setup_frames.specs.declared.put.Counts.{Counts}
use Rattle.std.specs.Prelude.{Result, Ok, Err}
use Rattle.refusal.specs.Number.{number_told}

write-at : (s : List ℕ) (i k : ℕ) → i + suc k ≡ 16 → is_write (opcode (frame_at s i)) ≡ true
unfolding frame_at
write-at s i k h = (write-means (0x34 + i)).1 (omega arith, omega arith)

writes-from : (s : List ℕ) (k i : ℕ) → i + k ≡ 16 → only_writes (frames_from s i k) ≡ true
unfolding frames_from only_writes
writes-from s zero i h = refl
writes-from s (suc k) i h =
    by-test (starts s i)
    (λ t. rw (t, write-at s i k h) (writes-from s k (suc i) (omega arith)))
    (λ t. rw t (writes-from s k (suc i) (omega arith)))

pub frames-bring : (s : List ℕ) → Words s → alarm_valid (alarm_word s) ≡ true → Brings (frames s) s
unfolding frames
frames-bring s w v = record { writes = writes-from s 16 0 refl; same = same-words s w v; fewest = least s }

-- an accepted call is one on a sound model
accepted-sound :
    (m : Model) (bytes lengths b l : List ℕ) (r : Result Counts Refusal) → Written m bytes lengths r b l → number_told r ≡ [] → is_sound m ≡ true
accepted-sound m bytes lengths b l r w e =
    by-test (is_sound m) (λ s. s)
    (λ f.
    let t : number_told r ≡ 0 ∷ [] = (number-0 m bytes lengths b l r w).1 f in
    let z : ◌≡◌ {A = ℕ} 0 1 = cc in
    absurd (omega arith))

-- "Sending them to a fresh model gives the same sixteen words, and every other list of write frames that does so has at least as many
-- bytes", of an accepted call
pub buffers-bring :
    (m : Model) (bytes lengths b l : List ℕ) (r : Result Counts Refusal) →
    Written m bytes lengths r b l →
    number_told r ≡ [] →
    Words m.setup →
    Brings (frames_left r b l) m.setup
buffers-bring m bytes lengths b l r w e sixteen =
    rw (frames-left m bytes lengths b l r w e)
    (frames-bring m.setup sixteen (bounds_of m (accepted-sound m bytes lengths b l r w e)).alarm)

pub refusal-sends-none : {G : Type 0} (n : Refusal) → number_told {A = Counts} (Err n) ≡ [] → G
refusal-sends-none n e = let z : ◌≡◌ {A = ℕ} 0 1 = cc in absurd (omega arith)
