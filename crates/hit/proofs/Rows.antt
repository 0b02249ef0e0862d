-- The printed TIMOUT table gives 01's bound for late words at all eight values.
use Prim.Native.Nat.{ℕ, ◌*◌, ◌^◌, ◌≤◌, ◌<◌, min}
use native.Mathlib.Omega.{arith}
use mathlib.Core.Bool.{true}
use mathlib.Core.Path.{◌≡◌, refl}
use lib.Pow.{pow_mono}
use Rattle.unit.proofs.Cases.{by-ltb}
use Rattle.unit.proofs.Rows.{agree, agree_at, past-last}
use Rattle.hit.specs.Limit.{late_from}
use Rattle.setup.specs.Table11.{timeout_table, timeout_row}

-- a row's microseconds in quanta, no further than the least word that is no hit
abbrev pub bound : ℕ → ℕ
bound k = min (timeout_row k * 262144) (2 ^ 31)

-- "at least 512 × 2^k × 65,536 .., or no hit"
abbrev late : ℕ → ℕ
late k = (late_from k).0

eight : agree bound late 8 ≡ true
unfolding timeout_table timeout_row late_from
eight = refl

pub timeout-rows : (k : ℕ) → k < 8 → bound k ≡ (late_from k).0
timeout-rows = agree_at bound late 8 eight

-- past the table both are the least word that is no hit
beyond : (k : ℕ) → 8 ≤ k → (late_from k).0 ≡ bound k
unfolding timeout_table timeout_row late_from
beyond k h = omega (arith, pow_mono {i = 8} {j = k} h, past-last timeout_table 16384 k refl (omega arith))

pub late-row : (k : ℕ) → (late_from k).0 ≡ bound k
late-row k = by-ltb k 8 (λ h t. omega (arith, timeout-rows k h)) (λ h t. beyond k h)
