-- Facts that pin the definitions down: what a run is, that both buffers give the frames back, and equal words.
use Prim.Native.Nat.{ℕ, zero, suc, ◌+◌, ◌<◌}
use native.Mathlib.Nat.{add-zero}
use native.Mathlib.Omega.{arith}
use mathlib.Core.Bool.{true, false}
use mathlib.Core.List.{List, [], ◌∷◌, ◌++◌}
use mathlib.Core.Path.{◌≡◌, refl, sym, ap, ◌∙◌}
use lib.ListN.{length, drop, length-map}
use lib.Seq.{take_at, drop_at}
use Rattle.unit.proofs.Cases.{by-test}
use Rattle.device.specs.declared.Model.{Model}
use Rattle.device.specs.Call.{accepted}
use Rattle.setup_frames.specs.Frames.{differs, differs_before, starts, run_length, frames, all_bytes, lengths_of, over}
use Rattle.setup_frames.specs.Frames.{frames_verdict, answer_by, bytes_by, lengths_by, Written}
use Rattle.setup_frames.specs.Sending.{cut, frames_left}
use Rattle.setup_frames.proofs.Outcome.{accepted-said}
use Rattle.refusal.specs.declared.Refusal.{Refusal}
use Rattle.setup_frames.specs.declared.put.Counts.{Counts}
use Rattle.std.specs.Prelude.{Result, Ok, Err}
use Rattle.refusal.specs.Number.{number_told}

-- "maximal runs of differing words": all its words differ, and the word after it does not; nor does the one before it
pub run-differs : (s : List ℕ) (k i j : ℕ) → j < run_length s i k → differs s (i + j) ≡ true
unfolding run_length
run-differs s zero i j = λ h. absurd (omega arith)
run-differs s (suc k) i zero =
    by-test (differs s i) (λ d. λ h. rw (add-zero i) d) (λ d. rw d (λ h. absurd (omega arith)))
run-differs s (suc k) i (suc j) =
    let e : i + suc j ≡ suc i + j = omega arith in
    by-test (differs s i)
    (λ d. rw (d, e) (λ h. run-differs s k (suc i) j (omega arith)))
    (λ d. rw d (λ h. absurd (omega arith)))

pub run_ends : (s : List ℕ) (k i : ℕ) → run_length s i k < k → differs s (i + run_length s i k) ≡ false
unfolding run_length
run_ends s zero i = λ h. absurd (omega arith)
run_ends s (suc k) i =
    let e : i + suc (run_length s (suc i) k) ≡ suc i + run_length s (suc i) k = omega arith in
    by-test (differs s i)
    (λ d. rw (d, e) (λ h. run_ends s k (suc i) (omega arith)))
    (λ d. rw d (λ h. rw (add-zero i) d))

pub starts-here : (s : List ℕ) (i : ℕ) → starts s i ≡ true → (differs s i ≡ true) × (differs_before s i ≡ false)
unfolding starts
starts-here s i =
    by-test (differs_before s i) (λ b. rw b (λ e. (cc, sym e))) (λ b. rw b (λ e. (e, refl)))

-- both buffers give the frames back, whatever they held before
cut_all : (fs : List (List ℕ)) → cut (lengths_of fs) (all_bytes fs) ≡ fs
unfolding cut lengths_of all_bytes
cut_all [] = refl
cut_all (f ∷ fs) =
    rw (take_at f (all_bytes fs) (length f) refl, drop_at f (all_bytes fs) (length f) refl)
    (ap (λ (r : List (List ℕ)). f ∷ r) (cut_all fs))

counted : (fs : List (List ℕ)) → length (lengths_of fs) ≡ length fs
unfolding lengths_of
counted fs = length-map fs length

module _ (m : Model) (bytes lengths b l : List ℕ) (r : Result Counts Refusal) (w : Written m bytes lengths r b l) (e : number_told r ≡ []) where
  done : frames_verdict m (length bytes) (length lengths) ≡ accepted
  done = accepted-said (frames_verdict m (length bytes) (length lengths)) m.setup (sym w.answer.numbered ∙ e)

  pub frames-counted : r ≡ Ok (record { bytes = length (all_bytes (frames m.setup)); frames = length (frames m.setup) })
  unfolding answer_by
  frames-counted = w.answer.same ∙ rw done

  pub frames-left : frames_left r b l ≡ frames m.setup
  unfolding frames_left bytes_by lengths_by over
  frames-left =
      let fs = frames m.setup in
      let in_bytes : b ≡ all_bytes fs ++ drop (length (all_bytes fs)) bytes = w.in_bytes ∙ rw done in
      let in_lengths : l ≡ lengths_of fs ++ drop (length (lengths_of fs)) lengths = w.in_lengths ∙ rw done in
      rw (
        frames-counted,
        in_bytes,
        in_lengths,
        take_at (lengths_of fs) (drop (length (lengths_of fs)) lengths) (length fs) (counted fs),
        take_at (all_bytes fs) (drop (length (all_bytes fs)) bytes) (length (all_bytes fs)) refl,
      )
      (cut_all fs)

-- "Models with equal words give equal frames", whatever the buffers are
pub equal_words :
    (m n : Model) (bytes bytes' lengths lengths' b b' l l' : List ℕ) (r r' : Result Counts Refusal) →
    m.setup ≡ n.setup →
    Written m bytes lengths r b l →
    Written n bytes' lengths' r' b' l' →
    number_told r ≡ [] →
    number_told r' ≡ [] →
    (r ≡ r') × (frames_left r b l ≡ frames_left r' b' l')
equal_words m n bytes bytes' lengths lengths' b b' l l' r r' s p q e f =
    let counts : r ≡ Ok (record { bytes = length (all_bytes (frames n.setup)); frames = length (frames n.setup) }) =
    rw s at (frames-counted m bytes lengths b l r p e)
    in (
      counts ∙ sym (frames-counted n bytes' lengths' b' l' r' q f),
      frames-left m bytes lengths b l r p e ∙ ap frames s ∙ sym (frames-left n bytes' lengths' b' l' r' q f),
    )
