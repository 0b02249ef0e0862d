-- The captures that have at most d digits. Assumes nothing.
use Prim.Native.Nat.{ℕ, zero, suc, ◌+◌, ◌-◌, ◌*◌, ◌^◌, ◌≤◌, ◌<◌}
use mathlib.Core.Path.{◌≡◌, refl, sym, ◌∙◌}
use mathlib.Core.Bool.{true, false}
use native.Mathlib.Nat.{pow-suc, pow-le-pow_right}
use native.Mathlib.Omega.{arith}
use lib.Pow.{pow-add}
use lib.Dec.{ltb, leb}
use borrow.Author.Tests.{le-leb, lt-leb, leb-false}
use Rattle.unit.proofs.Cases.{by-ltb}
use Rattle.listing.specs.Listing.{last_above}

pub above-none : (d first : ℕ) → last_above d first 0 ≡ false
unfolding last_above
above-none d first = refl

above-last : (d first n : ℕ) → 0 < n → last_above d first n ≡ leb (16 ^ d) (first + (n - 1))
unfolding last_above
above-last d first zero h = absurd (omega arith)
above-last d first (suc n) h = let one : suc n - 1 ≡ n = omega arith in rw one

-- the machine's two tests, with no sum that could overflow
pub above-first : (d first n : ℕ) → 0 < n → 16 ^ d ≤ first → last_above d first n ≡ true
above-first d first n some high = above-last d first n some ∙ le-leb (16 ^ d) (first + (n - 1)) (omega arith)

pub above-tested : (d first n : ℕ) → 0 < n → first < 16 ^ d → ltb (16 ^ d - first) n ≡ last_above d first n
above-tested d first n some low =
    by-ltb (16 ^ d - first) n
    (λ h e. e ∙ sym (above-last d first n some ∙ le-leb (16 ^ d) (first + (n - 1)) (omega arith)))
    (λ h e. e ∙ sym (above-last d first n some ∙ lt-leb (16 ^ d) (first + (n - 1)) (omega arith)))

pub within : (d first n : ℕ) → last_above d first n ≡ false → 0 < n → first + n ≤ 16 ^ d
within d first n e some = omega (arith, leb-false (16 ^ d) (first + (n - 1)) (sym (above-last d first n some) ∙ e))

pub sixteens : (d : ℕ) → 2 ^ (4 * d) ≡ 16 ^ d
sixteens zero = refl
sixteens (suc d) =
    let four : 4 * suc d ≡ 4 * d + 4 = omega arith in
    rw (four, pow-add, sixteens d, pow-suc 16 d)

pub at-most-word : (d : ℕ) → d ≤ 8 → 16 ^ d ≤ 4294967296
at-most-word d h = pow-le-pow_right (omega arith) h

-- each capture fits 32 bits
pub captures-fit : (d first n : ℕ) → d ≤ 8 → last_above d first n ≡ false → (i : ℕ) → i < n → first + i < 4294967296
captures-fit d first n eight e i h = omega (arith, within d first n e (omega arith), at-most-word d eight)
