-- What each word adds to the frames: 3 bytes where it starts one, 2 where it goes on with one, none where it does not differ. The sum
-- is what the frames have, and so they fit: 33 bytes, 8 frames.
use Prim.Native.Nat.{ℕ, zero, suc, ◌+◌, ◌-◌, ◌*◌, ◌≤◌}
use native.Mathlib.Omega.{arith}
use mathlib.Core.Bool.{true}
use mathlib.Core.List.{List}
use mathlib.Core.Logic.{◌⊎◌, inl, inr}
use mathlib.Core.Path.{◌≡◌, refl}
use lib.ListN.{length, length-append}
use borrow.Author.Tests.{ne_eqb}
use Rattle.unit.specs.Choice.{pick}
use Rattle.unit.proofs.Cases.{by-test}
use Rattle.setup_frames.specs.Frames.{differs, differs_before, starts, run_length, bytes_of, frame_at, frames_from, frames, all_bytes}
use Rattle.setup_frames.proofs.Pace.{sum_from, sum-front, paced}

pub before-next : (s : List ℕ) (i : ℕ) → differs_before s (suc i) ≡ differs s i
unfolding differs_before
before-next s i = let e : suc i - 1 ≡ i = omega arith in rw (e, ne_eqb (suc i) 0 (λ z. omega arith))

unfoldable pub weight : List ℕ → ℕ → ℕ
weight s i = pick (differs s i) (pick (differs_before s i) 2 3) 0

pub weight-most : (s : List ℕ) (i : ℕ) → weight s i ≤ 2 + 1
unfolding weight
weight-most s i =
    by-test (differs s i)
    (λ d. by-test (differs_before s i) (λ b. rw (d, b) (omega arith)) (λ b. rw (d, b) (omega arith)))
    (λ d. rw d (omega arith))

pub weight-gap : (s : List ℕ) (i : ℕ) → (weight s i ≡ 0) ⊎ (weight s (suc i) ≤ 2)
unfolding weight
weight-gap s i =
    by-test (differs s i)
    (λ d. inr (rw (before-next s i, d) (by-test (differs s (suc i)) (λ e. rw e (omega arith)) (λ e. rw e (omega arith)))))
    (λ d. rw d (inl refl))

-- the weight of a word by frames alone: 2 where it starts one
mark : List ℕ → ℕ → ℕ
mark s i = pick (starts s i) 2 0

mark-most : (s : List ℕ) (i : ℕ) → mark s i ≤ 1 + 1
unfolding mark
mark-most s i = by-test (starts s i) (λ e. rw e (omega arith)) (λ e. rw e (omega arith))

mark-gap : (s : List ℕ) (i : ℕ) → (mark s i ≡ 0) ⊎ (mark s (suc i) ≤ 1)
unfolding mark starts
mark-gap s i =
    by-test (differs s i)
    (λ d. inr (rw (before-next s i, d) (omega arith)))
    (λ d. inl (by-test (differs_before s i) (λ b. rw b) (λ b. rw (b, d))))

pub length-bytes : (s : List ℕ) (i n : ℕ) → length (bytes_of s i n) ≡ 2 * n
unfolding bytes_of
length-bytes s i zero = refl
length-bytes s i (suc n) = omega (arith, length-bytes s (suc i) n)

pub length-frame : (s : List ℕ) (i : ℕ) → length (frame_at s i) ≡ 1 + 2 * run_length s i (16 - i)
unfolding frame_at
length-frame s i = omega (arith, length-bytes s i (run_length s i (16 - i)))

-- a run of differing words is one longer than what follows its first
pub run-goes-on :
    (s : List ℕ) (i k : ℕ) → 16 - i ≡ suc k → differs s i ≡ true → run_length s i (16 - i) ≡ suc (run_length s (suc i) k)
unfolding run_length
run-goes-on s i k e d = rw (e, d)

-- The weights of the k words from i on. Where a run goes on at i, its words there are in no frame from i on.
abbrev Rest : List ℕ → ℕ → ℕ → Type 0
Rest s k i =
    sum_from (weight s) (suc i) k
    ≡ length (all_bytes (frames_from s (suc i) k)) + pick (differs s i) (2 * run_length s (suc i) k) 0

step :
    (s : List ℕ) (k i : ℕ) →
    16 - i ≡ suc k →
    Rest s k i →
    weight s i + sum_from (weight s) (suc i) k
    ≡ length (all_bytes (frames_from s i (suc k))) + pick (differs_before s i) (2 * run_length s i (suc k)) 0
unfolding weight all_bytes frames_from run_length starts
step s k i e =
    by-test (differs s i)
    (λ d. by-test (differs_before s i)
    (λ b. rw (d, b) (λ r. omega arith))
    (λ b.
    let f : length (frame_at s i) ≡ 1 + 2 * suc (run_length s (suc i) k) = rw (run-goes-on s i k e d) at (length-frame s i) in
    rw (d, b) (λ r. omega (arith, length-append (frame_at s i) (all_bytes (frames_from s (suc i) k))))))
    (λ d. by-test (differs_before s i) (λ b. rw (d, b) (λ r. omega arith)) (λ b. rw (d, b) (λ r. omega arith)))

tally :
    (s : List ℕ) (k i : ℕ) →
    i + k ≡ 16 →
    sum_from (weight s) i k ≡ length (all_bytes (frames_from s i k)) + pick (differs_before s i) (2 * run_length s i k) 0
unfolding all_bytes frames_from run_length
tally s zero i h = by-test (differs_before s i) (λ b. rw b) (λ b. rw b)
tally s (suc k) i h =
    rw (sum-front (weight s) i k)
    (step s k i (omega arith) (rw (before-next s i) at (tally s k (suc i) (omega arith))))

pub total : (s : List ℕ) → sum_from (weight s) 0 16 ≡ length (all_bytes (frames s))
unfolding frames differs_before
total s = omega (arith, tally s 16 0 refl)

pub bytes_most : (s : List ℕ) → length (all_bytes (frames s)) ≤ 33
bytes_most s = omega (arith, total s, paced 2 (weight s) (omega arith) (weight-most s) (weight-gap s) 0 16)

count : (s : List ℕ) (k i : ℕ) → sum_from (mark s) i k ≡ 2 * length (frames_from s i k)
unfolding frames_from mark
count s zero i = refl
count s (suc k) i =
    rw (sum-front (mark s) i k)
    (by-test (starts s i) (λ t. rw t (omega (arith, count s k (suc i)))) (λ t. rw t (omega (arith, count s k (suc i)))))

pub frames-most : (s : List ℕ) → length (frames s) ≤ 8
unfolding frames
frames-most s = omega (arith, count s 16 0, paced 1 (mark s) (omega arith) (mark-most s) (mark-gap s) 0 16)
