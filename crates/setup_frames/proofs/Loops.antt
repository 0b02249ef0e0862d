-- What the loops keep.
use Prim.Native.Nat.{ℕ, suc, ◌+◌, ◌-◌, ◌*◌, ◌/◌, ◌%◌, ◌≤◌, ◌<◌}
use native.Mathlib.Nat.{zero-add, add-zero, add-suc, suc-add}
use native.Mathlib.Numerals.{add-one}
use native.Mathlib.Omega.{arith}
use mathlib.Core.Bool.{true, false}
use mathlib.Core.List.{List, [], ◌∷◌, ◌++◌, append_assoc}
use mathlib.Core.Path.{◌≡◌, refl, sym, ◌∙◌}
use borrow.Rule.Slice.PartMut.{put_mid}
use lib.ListN.{length, get_or, set, take, drop, length-append, length-set, length-map}
use lib.Seq.{sets, sets-eq, length-sets, drop-drop}
use Rattle.setup_frames.specs.Frames.{differs, starts, run_length, bytes_of, frame_at, frames_from, frames, all_bytes, lengths_of, over}
use Rattle.setup_frames.proofs.Weight.{length-frame, bytes_most, frames-most}

-- Counting a run's words: n are counted, and the one at i + n differs, or does not, or is past the last.
module _ (s : List ℕ) (i n : ℕ) (so_far : run_length s i (16 - i) ≡ n + run_length s (i + n) (16 - (i + n))) where
  pub run_on :
      i + n < 16 → differs s (i + n) ≡ true → run_length s i (16 - i) ≡ n + 1 + run_length s (i + (n + 1)) (16 - (i + (n + 1)))
  unfolding run_length
  run_on h d =
      let e : 16 - (i + n) ≡ suc (16 - (i + (n + 1))) = omega arith in
      let f : suc (i + n) ≡ i + (n + 1) = omega arith in
      let next : run_length s (i + n) (16 - (i + n)) ≡ suc (run_length s (i + (n + 1)) (16 - (i + (n + 1)))) = rw (e, d, f) in
      omega arith

  pub run-stops : i + n < 16 → differs s (i + n) ≡ false → n ≡ run_length s i (16 - i)
  unfolding run_length
  run-stops h d =
      let e : 16 - (i + n) ≡ suc (16 - (i + (n + 1))) = omega arith in
      let next : run_length s (i + n) (16 - (i + n)) ≡ 0 = rw (e, d) in
      omega arith

  pub run_ends : 16 ≤ i + n → n ≡ run_length s i (16 - i)
  unfolding run_length
  run_ends h =
      let e : 16 - (i + n) ≡ 0 = omega arith in
      let next : run_length s (i + n) (16 - (i + n)) ≡ 0 = rw e in
      omega arith

-- Putting words: k of n are put.
pub put-two :
    (at : ℕ) (l : List ℕ) {bs : List ℕ} {a b : ℕ} →
    at + 2 ≤ length l →
    bs ≡ a ∷ b ∷ [] →
    put_mid at (at + 2 - at) l bs ≡ set (set l at a) (at + 1) b
put-two at l {bs} {a} {b} room e =
    let m : at + 2 - at ≡ 2 = omega arith in
    let whole : set (set l at a) (suc at) b ≡ take at l ++ (a ∷ b ∷ []) ++ drop (at + 2) l = sets-eq (a ∷ b ∷ []) l at room in
    rw (e, m, add-one at, whole, append_assoc, ← drop-drop 2 at l)

pub words-on :
    (s l start : List ℕ) (i n at k : ℕ) →
    k < n →
    sets start at (bytes_of s i n) ≡ sets l (at + 2 * k) (bytes_of s (i + k) (n - k)) →
    sets start at (bytes_of s i n)
    ≡ sets (set (set l (at + 2 * k) (get_or s (i + k) 0 / 256 % 256)) (at + 2 * k + 1) (get_or s (i + k) 0 % 256)) (at + 2 * (k + 1))
    (bytes_of s (i + (k + 1)) (n - (k + 1)))
unfolding bytes_of
words-on s l start i n at k h so_far =
    let e : n - k ≡ suc (n - (k + 1)) = omega arith in
    let f : suc (i + k) ≡ i + (k + 1) = omega arith in
    let g : at + 2 * (k + 1) ≡ suc (suc (at + 2 * k)) = omega arith in
    let o : at + 2 * k + 1 ≡ suc (at + 2 * k) = omega arith in
    rw (g, o) (so_far ∙ rw (e, f))

pub words-done :
    (s l start : List ℕ) (i n at k : ℕ) →
    n ≤ k →
    sets start at (bytes_of s i n) ≡ sets l (at + 2 * k) (bytes_of s (i + k) (n - k)) →
    l ≡ sets start at (bytes_of s i n)
unfolding bytes_of
words-done s l start i n at k h so_far = let e : n - k ≡ 0 = omega arith in sym (so_far ∙ rw e)

-- Putting one list after the other.
sets-append : (a b l : List ℕ) (at : ℕ) → sets l at (a ++ b) ≡ sets (sets l at a) (at + length a) b
sets-append [] b l at = rw add-zero
sets-append (x ∷ a) b l at = sets-append a b (set l at x) (suc at) ∙ rw (suc-add, add-suc)

sets_over : (l values : List ℕ) → length values ≤ length l → sets l 0 values ≡ over l values
unfolding over
sets_over l values h = sets-eq values l 0 (omega arith) ∙ rw (zero-add (length values))

-- the first frame, then the others
first-bytes :
    (f : List ℕ) (r : List (List ℕ)) (b : List ℕ) (at : ℕ) →
    sets b at (all_bytes (f ∷ r)) ≡ sets (sets b at f) (at + length f) (all_bytes r)
unfolding all_bytes
first-bytes f r b at = sets-append f (all_bytes r) b at

first-length :
    (f : List ℕ) (r : List (List ℕ)) (l : List ℕ) (n : ℕ) →
    sets l n (lengths_of (f ∷ r)) ≡ sets (set l n (length f)) (suc n) (lengths_of r)
unfolding lengths_of
first-length f r l n = refl

-- The frames of the runs that start before i are put into both buffers, which have become b and l.
pub record Put (s bytes lengths b l : List ℕ) (i at n : ℕ) : Type 0 where
  pub within : i ≤ 16
  pub bytes-kept : length b ≡ length bytes
  pub lengths-kept : length l ≡ length lengths
  pub in_bytes : sets bytes 0 (all_bytes (frames s)) ≡ sets b at (all_bytes (frames_from s i (16 - i)))
  pub in-lengths : sets lengths 0 (lengths_of (frames s)) ≡ sets l n (lengths_of (frames_from s i (16 - i)))
  pub bytes_left : at + length (all_bytes (frames_from s i (16 - i))) ≡ length (all_bytes (frames s))
  pub frames-left : n + length (frames_from s i (16 - i)) ≡ length (frames s)

pub put-begins : (s bytes lengths : List ℕ) → Put s bytes lengths bytes lengths 0 0 0
unfolding frames
put-begins s bytes lengths =
    record {
      within = omega arith;
      bytes-kept = refl;
      lengths-kept = refl;
      in_bytes = refl;
      in-lengths = refl;
      bytes_left = omega arith;
      frames-left = omega arith;
    }

module _ (s : List ℕ) (i : ℕ) (h : i < 16) where
  none_here : starts s i ≡ false → frames_from s i (16 - i) ≡ frames_from s (i + 1) (16 - (i + 1))
  unfolding frames_from
  none_here t = let e : 16 - i ≡ suc (16 - (i + 1)) = omega arith in rw (e, t, add-one i)

  one-here : starts s i ≡ true → frames_from s i (16 - i) ≡ frame_at s i ∷ frames_from s (i + 1) (16 - (i + 1))
  unfolding frames_from
  one-here t = let e : 16 - i ≡ suc (16 - (i + 1)) = omega arith in rw (e, t, add-one i)

module _ {s bytes lengths b l : List ℕ} {i at n : ℕ} (p : Put s bytes lengths b l i at n) where
  pub put-passes : i < 16 → starts s i ≡ false → Put s bytes lengths b l (i + 1) at n
  put-passes h t =
      let e = none_here s i h t in
      record {
        within = omega arith;
        bytes-kept = p.bytes-kept;
        lengths-kept = p.lengths-kept;
        in_bytes = rw e at p.in_bytes;
        in-lengths = rw e at p.in-lengths;
        bytes_left = rw e at p.bytes_left;
        frames-left = rw e at p.frames-left;
      }

  module _ {words : ℕ} (h : i < 16) (t : starts s i ≡ true) (w : words ≡ run_length s i (16 - i)) where
    frame_here : length (frame_at s i) ≡ 1 + 2 * words
    frame_here = rw w (length-frame s i)

    bytes_next : at + (1 + 2 * words) + length (all_bytes (frames_from s (i + 1) (16 - (i + 1)))) ≡ length (all_bytes (frames s))
    unfolding all_bytes
    bytes_next =
        let r = all_bytes (frames_from s (i + 1) (16 - (i + 1))) in
        omega (arith, rw (one-here s i h t) at p.bytes_left, length-append (frame_at s i) r, frame_here)

    frames-next : n + 1 + length (frames_from s (i + 1) (16 - (i + 1))) ≡ length (frames s)
    frames-next = omega (arith, rw (one-here s i h t) at p.frames-left)

    pub put-room : (at + (1 + 2 * words) ≤ 33) × (n < 8)
    put-room = omega (arith, bytes_next, frames-next, bytes_most s, frames-most s)

    -- as the code puts it
    as-put : frame_at s i ≡ (0x34 + i) ∷ bytes_of s i words
    unfolding frame_at
    as-put = rw w

    pub put_on :
        Put s bytes lengths (sets b at ((0x34 + i) ∷ bytes_of s i words)) (set l n (1 + 2 * words)) (i + 1) (at + (1 + 2 * words))
        (n + 1)
    put_on =
        let r = frames_from s (i + 1) (16 - (i + 1)) in
        record {
          within = omega arith;
          bytes-kept = length-sets b at ((0x34 + i) ∷ bytes_of s i words) ∙ p.bytes-kept;
          lengths-kept = length-set l n (1 + 2 * words) ∙ p.lengths-kept;
          in_bytes =
              rw (one-here s i h t) at p.in_bytes ∙ (first-bytes (frame_at s i) r b at ∙ rw (frame_here, as-put));
          in-lengths =
              rw (one-here s i h t) at p.in-lengths ∙ (first-length (frame_at s i) r l n ∙ rw (frame_here, add-one n));
          bytes_left = bytes_next;
          frames-left = frames-next;
        }

  -- all are put
  module _ (h : 16 ≤ i) where
    none_left : frames_from s i (16 - i) ≡ []
    unfolding frames_from
    none_left = let e : 16 - i ≡ 0 = omega arith in rw e

    pub put-counts : (at ≡ length (all_bytes (frames s))) × (n ≡ length (frames s))
    unfolding all_bytes
    put-counts =
        (omega (arith, rw none_left at p.bytes_left), omega (arith, rw none_left at p.frames-left))

    pub put-bytes : 33 ≤ length bytes → b ≡ over bytes (all_bytes (frames s))
    unfolding all_bytes
    put-bytes room =
        sym (rw none_left at p.in_bytes) ∙ sets_over bytes (all_bytes (frames s)) (omega (arith, bytes_most s))

    pub put-lengths : 8 ≤ length lengths → l ≡ over lengths (lengths_of (frames s))
    unfolding lengths_of
    put-lengths room =
        sym (rw none_left at p.in-lengths) ∙
        sets_over lengths (lengths_of (frames s)) (rw (length-map (frames s) length) (omega (arith, frames-most s)))
