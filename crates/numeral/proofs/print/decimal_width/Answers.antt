-- `numeral::print::decimal_width` meets its contract: a number of k + 1 digits is from 10 ^ k to below 10 ^ (k + 1).
-- Assumes nothing.
use Rattle.std.proofs.Common.{◌≡◌, ℕ, suc, ◌+◌, ◌*◌, ◌^◌, ◌≤◌, ◌<◌, sym, arith}
use native.Mathlib.Nat.{pow-suc, pow-le-pow_right}
use native.Mathlib.Decide.{dec_lt}
use Rattle.numeral.specs.Print.{width_from, decimal_width}
use Rattle.numeral.proofs.PrintLaws.{width_one, width-holds, width-most}
use Rattle.numeral.proofs.print.decimal_width.Goals as goal

more : (k w v : ℕ) → 10 ^ k ≤ v → v < 10 ^ w → k < w
more k w v low high = go (dec_lt k w)
  where
    go : Dec (k < w) → k < w
    go (yes p) = p
    go (no p) = let h : w ≤ k = omega arith in let grown : 10 ^ w ≤ 10 ^ k = pow-le-pow_right (omega arith) h in absurd (omega arith)

exact : (k v : ℕ) → v < 2 ^ 64 → 10 ^ k ≤ v → v < 10 * 10 ^ k → k + 1 ≡ width_from 19 v
exact k v fits low high =
    let most : width_from 19 v ≤ suc k = width-most 19 k v (rw pow-suc (omega arith)) in
    omega (arith, more k (width_from 19 v) v low (width-holds 19 v (omega arith)))

pub returns-in-Some : goal.returns-in-Some
unfolding decimal_width
returns-in-Some c =
    let e = c.in-Some.ensures in (exact _ _ c.ranges.v.fits e.power_le e.next_power_gt, omega arith)

pub returns-in-None : goal.returns-in-None
unfolding decimal_width
returns-in-None c = (rw c.in-None.ensures.none (sym (width_one 19 0 (omega arith))), omega arith)
