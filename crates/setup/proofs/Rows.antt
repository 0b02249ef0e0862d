-- The printed STOP table gives 01's H at all eight values, the TIMOUT table 01's timeouts.
use Prim.Native.Nat.{ℕ, ◌+◌, ◌*◌, ◌^◌, ◌≤◌, ◌<◌, min}
use native.Mathlib.Omega.{arith}
use mathlib.Core.Bool.{true}
use mathlib.Core.Path.{◌≡◌, refl, sym}
use mathlib.Core.List.{List}
use Rattle.unit.specs.Bits.{bits}
use Rattle.unit.proofs.Rows.{agree, agree_at, past-last}
use Rattle.setup.specs.Setup.{word_of, hit_count}
use Rattle.setup.specs.Table11.{stop_table, stop_row, timeout_table, timeout_row}
use Rattle.setup.proofs.Laws.{hits-are}

-- "H = STOP + 1 and at most 6"
abbrev h : ℕ → ℕ
h stop = min (stop + 1) 6

eight : agree stop_row h 8 ≡ true
unfolding stop_table stop_row
eight = refl

pub stop-rows : (stop : ℕ) → stop < 8 → stop_row stop ≡ min (stop + 1) 6
stop-rows = agree_at stop_row h 8 eight

-- "STOP is 15:13 of 39h"
pub hits-row : (s : List ℕ) → hit_count s ≡ stop_row (bits 15 13 (word_of s 0x39))
hits-row s = omega (arith, hits-are s, stop-rows (bits 15 13 (word_of s 0x39)) (omega arith))

-- a row's microseconds in periods of 4 MHz, and 01's "512 × 2^k"
abbrev printed : ℕ → ℕ
printed k = timeout_row k * 4

abbrev periods : ℕ → ℕ
periods k = 512 * 2 ^ k

eight-timeouts : agree printed periods 8 ≡ true
unfolding timeout_table timeout_row
eight-timeouts = refl

pub timeout-periods : (k : ℕ) → k < 8 → timeout_row k * 4 ≡ 512 * 2 ^ k
timeout-periods = agree_at printed periods 8 eight-timeouts

-- past the table both are the last row
pub last_row : (n : ℕ) → 8 ≤ n → (stop_row n ≡ 6) × (timeout_row n ≡ 16384)
unfolding stop_table stop_row timeout_table timeout_row
last_row n past = (sym (past-last stop_table 6 n refl (omega arith)), sym (past-last timeout_table 16384 n refl (omega arith)))
