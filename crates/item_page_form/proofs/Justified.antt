-- A time right-justified in 14 places. Assumes nothing.
use Prim.Native.Nat.{ℕ, zero, suc, ◌+◌, ◌-◌, ◌/◌, ◌≤◌, ◌<◌}
use mathlib.Core.Path.{◌≡◌, sym, ap, ◌∙◌}
use mathlib.Core.List.{List, ◌++◌, append_assoc}
use native.Mathlib.Nat.{sub-zero, zero-sub, suc-sub-suc}
use native.Mathlib.Omega.{arith}
use lib.ListN.{length, take, drop, replicate, length-append, length-replicate}
use lib.Seq.{take_at, drop-append-le}
use borrow.Author.Tests.{le-leb}
use Rattle.unit.proofs.Cases.{by-ltb}
use Rattle.numeral.specs.Place.{overwrite, next_place, written, Put}
use Rattle.numeral.specs.Print.{decimal_width, ten_thousandths, nanoseconds, signed_nanoseconds}
use Rattle.numeral.proofs.PrintLaws.{width-most}
use Rattle.listing.specs.Listing.{right_justified}
use Rattle.listing.proofs.Time.{length-time, time-fits}

-- the longest time, 16,384,000 ns, has 8 digits before the point
short : (q : ℕ) → q < 4294967296 → decimal_width (ten_thousandths q / 10000) ≤ 8
unfolding decimal_width ten_thousandths
short q h = width-most 19 7 (ten_thousandths q / 10000) (omega arith)

unsigned-fits : (w : ℕ) → w < 4294967296 → length (nanoseconds w) ≤ 14
unsigned-fits w h = omega (arith, length-time w, short w h)

signed-fits : (w : ℕ) → w < 4294967296 → length (signed_nanoseconds w) ≤ 14
unfolding signed_nanoseconds
signed-fits w h =
    by-ltb w 2147483648 (λ p e. rw e (unsigned-fits w h))
    (λ p e. rw e (omega (arith, time-fits (4294967296 - w) (omega arith))))

drop-replicate : (n k c : ℕ) → drop k (replicate n c) ≡ replicate (n - k) c
drop-replicate n zero c = rw sub-zero
drop-replicate zero (suc k) c = rw zero-sub
drop-replicate (suc n) (suc k) c = rw suc-sub-suc (drop-replicate n k c)

-- 14 blanks, the text and what follows it: the 14 places before the text's end
ending : (text rest : List ℕ) → length text ≤ 14 → take 14 (drop (length text) (replicate 14 32 ++ (text ++ rest))) ≡ right_justified 14 text
unfolding right_justified
ending text rest h =
    let blanks : List ℕ = replicate (14 - length text) 32 in
    let size : length (blanks ++ text) ≡ 14 = rw (length-append, length-replicate) (omega arith) in
    ap (λ (l : List ℕ). take 14 l) (drop-append-le (length text) (replicate 14 32) (text ++ rest) h
    ∙ ap (λ (l : List ℕ). l ++ (text ++ rest)) (drop-replicate 14 (length text) 32)
    ∙ sym (append_assoc blanks text rest))
    ∙ take_at (blanks ++ text) rest 14 size

-- a text put after 14 blanks of a field of 32
module _ (text : List ℕ) (fits : length text ≤ 14) (r : ℕ) (l : List ℕ) (put : Put (replicate 32 32) 14 text r l) where
  text-end : r ≡ 14 + length text
  unfolding next_place
  text-end = rw (le-leb (14 + length text) 32 (omega arith)) at put.next

  text-part : take (r - (r - 14)) (drop (r - 14) l) ≡ right_justified 14 text
  unfolding written overwrite
  text-part =
      let n : r - 14 ≡ length text = omega (arith, text-end) in
      let all : r - (r - 14) ≡ 14 = omega (arith, text-end) in
      rw (all, n, put.bytes, le-leb (14 + length text) 32 (omega arith))
      (ending text (drop (14 + length text) (replicate 32 32)) fits)

module _ {w r : ℕ} {l : List ℕ} (put : Put (replicate 32 32) 14 (nanoseconds w) r l) (low : w < 4294967296) where
  pub unsigned-end : (r ≡ 14 + length (nanoseconds w)) × (length (nanoseconds w) ≤ 14)
  unsigned-end = (text-end (nanoseconds w) (unsigned-fits w low) r l put, unsigned-fits w low)

  pub unsigned-part : take (r - (r - 14)) (drop (r - 14) l) ≡ right_justified 14 (nanoseconds w)
  unsigned-part = text-part (nanoseconds w) (unsigned-fits w low) r l put

module _ {w r : ℕ} {l : List ℕ} (put : Put (replicate 32 32) 14 (signed_nanoseconds w) r l) (low : w < 4294967296) where
  pub signed-end : (r ≡ 14 + length (signed_nanoseconds w)) × (length (signed_nanoseconds w) ≤ 14)
  signed-end = (text-end (signed_nanoseconds w) (signed-fits w low) r l put, signed-fits w low)

  pub signed_part : take (r - (r - 14)) (drop (r - 14) l) ≡ right_justified 14 (signed_nanoseconds w)
  signed_part = text-part (signed_nanoseconds w) (signed-fits w low) r l put
