-- Which number is given, and what the call then writes.
use Prim.Native.Nat.{ℕ, ◌≤◌, ◌<◌}
use native.Mathlib.Omega.{arith}
use mathlib.Core.Bool.{true, false}
use mathlib.Core.List.{List, [], ◌∷◌}
use mathlib.Core.Logic.{◌↔◌, ◌⊎◌, inl, inr, ⊎_elim}
use mathlib.Core.Path.{◌≡◌, refl, sym, ap, ◌∙◌}
use lib.ListN.{length}
use borrow.Author.Tests.{lt-ltb, le-ltb}
use Rattle.unit.proofs.Says.{says}
use Rattle.unit.proofs.Cases.{by-test, by-ltb}
use Rattle.device.specs.declared.Model.{Model}
use Rattle.device.specs.Model.{is_sound}
use Rattle.device.specs.Call.{Verdict, accepted, refused, first_of}
use Rattle.setup_frames.specs.Frames.{frames, all_bytes, lengths_of, over, frames_verdict, answer_by, bytes_by, lengths_by, Written}
use Rattle.setup_frames.specs.Frames.{values_framed}
use Rattle.refusal.specs.declared.Refusal.{Refusal}
use Rattle.setup_frames.specs.declared.put.Counts.{Counts}
use Rattle.std.specs.Prelude.{Result, Ok, Err}
use Rattle.refusal.specs.Number.{number, number_told}
use Rattle.refusal.proofs.Number.{number-same}

-- "number 19, short buffer, when there are fewer than 33 byte or 8 length places, whatever words the model holds, after
-- number 0"
module _ (m : Model) (b l : ℕ) where
  pub unsound-refused : is_sound m ≡ false → frames_verdict m b l ≡ refused Refusal.NotSound
  unfolding frames_verdict first_of
  unsound-refused s = rw s

  pub short-refused : is_sound m ≡ true → (b < 33) ⊎ (l < 8) → frames_verdict m b l ≡ refused Refusal.ShortBuffer
  unfolding frames_verdict first_of
  short-refused s =
      ⊎_elim (λ h. rw (s, lt-ltb b 33 h))
      (λ h. by-ltb b 33 (λ k e. rw (s, e)) (λ k e. rw (s, e, lt-ltb l 8 h)))

  pub room-accepted : is_sound m ≡ true → 33 ≤ b → 8 ≤ l → frames_verdict m b l ≡ accepted
  unfolding frames_verdict first_of
  room-accepted s h k = rw (s, le-ltb b 33 h, le-ltb l 8 k)

  verdict-0 : (frames_verdict m b l ≡ refused Refusal.NotSound) ↔ (is_sound m ≡ false)
  verdict-0 = (
    λ e. by-test (is_sound m)
        (λ s. by-ltb b 33
        (λ h t. let y : ◌≡◌ {A = Refusal} Refusal.ShortBuffer Refusal.NotSound = cc (short-refused s (inl h)) in let z : ◌≡◌ {A = ℕ} 19 0 = ap number y in absurd (omega arith))
        (λ h t. by-ltb l 8
        (λ k u. let y : ◌≡◌ {A = Refusal} Refusal.ShortBuffer Refusal.NotSound = cc (short-refused s (inr k)) in let z : ◌≡◌ {A = ℕ} 19 0 = ap number y in absurd (omega arith))
        (λ k u. let z : ◌≡◌ {A = ℕ} 1 0 = cc (room-accepted s h k) in absurd (omega arith))))
        (λ s. s),
    unsound-refused,
  )

  verdict-19 : (frames_verdict m b l ≡ refused Refusal.ShortBuffer) ↔ ((is_sound m ≡ true) × ((b < 33) ⊎ (l < 8)))
  verdict-19 = (
    λ e. by-test (is_sound m)
        (λ s. by-ltb b 33 (λ h t. (s, inl h))
        (λ h t. by-ltb l 8 (λ k u. (s, inr k))
        (λ k u. let z : ◌≡◌ {A = ℕ} 1 0 = cc (room-accepted s h k) in absurd (omega arith))))
        (λ s. let y : ◌≡◌ {A = Refusal} Refusal.ShortBuffer Refusal.NotSound = cc (unsound-refused s) in let z : ◌≡◌ {A = ℕ} 19 0 = ap number y in absurd (omega arith)),
    λ p. short-refused p.0 p.1,
  )

-- "Turned away": the number, and both buffers as they were
pub nothing_written :
    (m : Model) (bytes lengths : List ℕ) (n : Refusal) →
    frames_verdict m (length bytes) (length lengths) ≡ refused n →
    Written m bytes lengths (Err n) bytes lengths
unfolding answer_by bytes_by lengths_by
nothing_written m bytes lengths n e = record { answer = says (rw e); in_bytes = rw e; in_lengths = rw e }

pub frames-written :
    (m : Model) (bytes lengths b l : List ℕ) (x y : ℕ) →
    frames_verdict m (length bytes) (length lengths) ≡ accepted →
    (x ≡ length (all_bytes (frames m.setup))) ×
    (y ≡ length (frames m.setup)) ×
    (b ≡ over bytes (all_bytes (frames m.setup))) ×
    (l ≡ over lengths (lengths_of (frames m.setup))) →
    Written m bytes lengths (Ok (record { bytes = x; frames = y })) b l
unfolding answer_by bytes_by lengths_by
frames-written m bytes lengths b l x y e p =
    record { answer = says (rw (e, p.0, p.1)); in_bytes = rw e p.2; in_lengths = rw e p.3 }

-- what the answer says

no_number : {A : Type 0} {n : ℕ} → [] ≡ n ∷ [] → A
no_number e = let z : ◌≡◌ {A = ℕ} 0 1 = ap length e in absurd (omega arith)

number-said : (v : Verdict) (s : List ℕ) (n : Refusal) → (number_told (answer_by v s) ≡ number n ∷ []) ↔ (v ≡ refused n)
unfolding answer_by
number-said accepted s n = (λ e. no_number e, λ e. let z : ◌≡◌ {A = ℕ} 0 1 = cc in absurd (omega arith))
number-said (refused k) s n = (λ e. let z : number k ≡ number n = cc in ap refused (number-same k n z), λ e. let z : k ≡ n = cc in rw z)

pub accepted-said : (v : Verdict) (s : List ℕ) → number_told (answer_by v s) ≡ [] → v ≡ accepted
unfolding answer_by
accepted-said accepted s e = refl
accepted-said (refused k) s e = no_number (sym e)

pub counts-said :
    (s : List ℕ) → values_framed (answer_by accepted s) ≡ length (all_bytes (frames s)) ∷ length (frames s) ∷ []
unfolding answer_by
counts-said s = refl

-- the numbers, of a call's answer
module _ (m : Model) (bytes lengths b l : List ℕ) (r : Result Counts Refusal) (w : Written m bytes lengths r b l) where
  numbered : (n : Refusal) → (number_told r ≡ number n ∷ []) ↔ (frames_verdict m (length bytes) (length lengths) ≡ refused n)
  numbered n =
      let said = number-said (frames_verdict m (length bytes) (length lengths)) m.setup n in
      (λ e. said.0 (sym w.answer.numbered ∙ e), λ e. w.answer.numbered ∙ said.1 e)

  pub number-0 : (number_told r ≡ 0 ∷ []) ↔ (is_sound m ≡ false)
  number-0 =
      let by = verdict-0 m (length bytes) (length lengths) in
      (λ e. by.0 ((numbered Refusal.NotSound).0 e), λ u. (numbered Refusal.NotSound).1 (by.1 u))

  pub number-19 : (number_told r ≡ 19 ∷ []) ↔ ((is_sound m ≡ true) × ((length bytes < 33) ⊎ (length lengths < 8)))
  number-19 =
      let by = verdict-19 m (length bytes) (length lengths) in
      (λ e. by.0 ((numbered Refusal.ShortBuffer).0 e), λ u. (numbered Refusal.ShortBuffer).1 (by.1 u))
