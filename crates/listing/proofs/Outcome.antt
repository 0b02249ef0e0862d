-- The three outcomes of a listing. Assumes nothing.
use Prim.Native.Nat.{ℕ, ◌+◌, ◌*◌, ◌≤◌, ◌<◌}
use mathlib.Core.Path.{◌≡◌}
use mathlib.Core.Bool.{true, false}
use mathlib.Core.List.{List, ◌++◌}
use native.Mathlib.Nat.{mul-le-mul_left, zero-add}
use native.Mathlib.Decide.{dec_lt}
use native.Mathlib.Omega.{arith}
use lib.IntN.{ℤ}
use lib.ListN.{length, drop}
use borrow.Author.Tests.{lt-ltb, le-ltb}
use Rattle.numeral.specs.Place.{overwrite}
use Rattle.listing.specs.Listing.{line_length, lines, last_above, Outcome, refused, listing}
use Rattle.listing.proofs.Capture.{within, at-most-word}
use Rattle.listing.proofs.Sequence.{length-is}
use Rattle.std.specs.Prelude.{Result, Ok, Err}
use Rattle.refusal.specs.declared.Refusal.{Refusal}
use Rattle.refusal.specs.Number.{number, number_told, values_told, value_told}

overwrite-start : (out text : List ℕ) → overwrite out 0 text ≡ text ++ drop (length text) out
unfolding overwrite
overwrite-start out text = rw zero-add

-- as the machine forms the size
module _ (d : ℕ) (ds : List ℤ) (first : ℕ) (out : List ℕ) where
  pub twenty : last_above d first (length ds) ≡ true → refused Refusal.LastCapture out ≡ listing d ds first out
  unfolding listing
  twenty e = rw e

  module _ (low : last_above d first (length ds) ≡ false) where
    pub size_fits : d ≤ 8 → length ds * (d + 15) < 18446744073709551616
    size_fits eight = go (dec_lt 0 (length ds))
      where
        width : d + 15 ≤ 23
        width = omega arith

        go : Dec (0 < length ds) → length ds * (d + 15) < 18446744073709551616
        go (yes p) = omega (arith, mul-le-mul_left (length ds) width, within d first (length ds) low p, at-most-word d eight)
        go (no p) = omega (arith, mul-le-mul_left (length ds) width)

    pub twenty-one : length out < length ds * (d + 15) → refused Refusal.ShortListing out ≡ listing d ds first out
    unfolding listing
    twenty-one h = rw (low, length-is d, lt-ltb (length out) (length ds * (d + 15)) h)

    pub all-written : length ds * (d + 15) ≤ length out → length (lines d first ds) ≡ length ds * line_length d → {l : List ℕ} → l ≡ overwrite out 0 (lines d first ds)
        → ◌≡◌ {A = Outcome} (record { answer = Ok (length ds * (d + 15)); bytes = l }) (listing d ds first out)
    unfolding listing
    all-written h size e = rw (low, length-is d, le-ltb (length out) (length ds * (d + 15)) h, size, length-is d, e, overwrite-start, size, length-is d)
