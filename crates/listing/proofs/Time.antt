-- A time right-justified in 12 places. Assumes nothing.
use Prim.Native.Nat.{ℕ, zero, suc, ◌+◌, ◌-◌, ◌/◌, ◌≤◌}
use mathlib.Core.Path.{◌≡◌, sym, ap, ◌∙◌}
use mathlib.Core.List.{List, ◌++◌, append_assoc}
use native.Mathlib.Nat.{sub-zero, zero-sub, suc-sub-suc}
use native.Mathlib.Omega.{arith}
use lib.ListN.{length, take, drop, replicate, length-append, length-replicate}
use lib.Seq.{take_at, drop-append-le}
use borrow.Author.Tests.{le-leb}
use Rattle.numeral.specs.Place.{overwrite, next_place, written, Put}
use Rattle.numeral.specs.Print.{decimal_width, ten_thousandths, four_decimals, nanoseconds}
use Rattle.numeral.proofs.DigitLaws.{length_digits}
use Rattle.numeral.proofs.PrintLaws.{width-most, length-decimal}
use Rattle.listing.specs.Listing.{right_justified}

-- the largest magnitude of a difference has 7 digits before the point
short : (q : ℕ) → q ≤ 2147483648 → decimal_width (ten_thousandths q / 10000) ≤ 7
unfolding decimal_width ten_thousandths
short q h = width-most 19 6 (ten_thousandths q / 10000) (omega arith)

pub length-time : (q : ℕ) → length (nanoseconds q) ≡ decimal_width (ten_thousandths q / 10000) + 5
unfolding nanoseconds four_decimals
length-time q = rw (length-append, length-decimal, length_digits)

pub time-fits : (q : ℕ) → q ≤ 2147483648 → length (nanoseconds q) ≤ 12
time-fits q h = omega (arith, length-time q, short q h)

pub length-justified : (places : ℕ) (text : List ℕ) → length text ≤ places → length (right_justified places text) ≡ places
unfolding right_justified
length-justified places text h = rw (length-append, length-replicate) (omega arith)

drop-replicate : (n k c : ℕ) → drop k (replicate n c) ≡ replicate (n - k) c
drop-replicate n zero c = rw sub-zero
drop-replicate zero (suc k) c = rw zero-sub
drop-replicate (suc n) (suc k) c = rw suc-sub-suc (drop-replicate n k c)

-- 12 blanks, the text and what follows it: the 12 places before the text's end
ending : (text rest : List ℕ) → length text ≤ 12 → take 12 (drop (length text) (replicate 12 32 ++ (text ++ rest))) ≡ right_justified 12 text
unfolding right_justified
ending text rest h =
    let blanks : List ℕ = replicate (12 - length text) 32 in
    let size : length (blanks ++ text) ≡ 12 = rw (length-append, length-replicate) (omega arith) in
    ap (λ (l : List ℕ). take 12 l) (drop-append-le (length text) (replicate 12 32) (text ++ rest) h
    ∙ ap (λ (l : List ℕ). l ++ (text ++ rest)) (drop-replicate 12 (length text) 32)
    ∙ sym (append_assoc blanks text rest))
    ∙ take_at (blanks ++ text) rest 12 size

-- a time put after 12 blanks of a field of 24
module _ (q : ℕ) (few : q ≤ 2147483648) (r : ℕ) (l : List ℕ) (put : Put (replicate 24 32) 12 (nanoseconds q) r l) where
  pub time-end : r ≡ 12 + length (nanoseconds q)
  unfolding next_place
  time-end = rw (le-leb (12 + length (nanoseconds q)) 24 (omega (arith, time-fits q few))) at put.next

  pub time-part : take (r - (r - 12)) (drop (r - 12) l) ≡ right_justified 12 (nanoseconds q)
  unfolding written overwrite
  time-part =
      let n : r - 12 ≡ length (nanoseconds q) = omega (arith, time-end) in
      let twelve : r - (r - 12) ≡ 12 = omega (arith, time-end) in
      let fits = time-fits q few in
      rw (twelve, n, put.bytes, le-leb (12 + length (nanoseconds q)) 24 (omega arith))
      (ending (nanoseconds q) (drop (12 + length (nanoseconds q)) (replicate 24 32)) fits)
