-- Words that are late, open or short.
use Rattle.std.specs.Prelude.{ℕ, ◌+◌, ◌-◌, ◌*◌, ◌^◌, min, Bool, false, List, [], ◌∷◌, leb, ltb}
use Rattle.unit.specs.Choice.{either}
use Rattle.unit.specs.declared.Quanta.{Quanta}

-- "A word is late when it is at least 512 × 2^k × 65,536, k = TIMOUT (2:0 of 39h), or no hit"; "2^31 or more means no hit": the least
-- late word
unfoldable pub late_from : ℕ → Quanta
late_from k = record { 0 = min (512 * 2 ^ k * 65536) (2 ^ 31) }

-- "A word is open when it is at least (512 × (PORTCYC + 1) − 8) × 65,536": the least open word
unfoldable pub open_from : ℕ → Quanta
open_from cycle = record { 0 = (512 * (cycle + 1) - 8) * 65536 }

-- "A word below 32 × 65,536" is a short (Note 3). 000: "If the resultant temperature reading in less than 8µs, then the MAX35101
-- writes a value of 0000h to the corresponding Results registers to indicate a short-circuit temperature probe." The least
-- word that is none
unfoldable pub short_below : Quanta
short_below = record { 0 = 32 * 65536 }

-- some word of the list meets the test
unfoldable pub any_word : (ℕ → Bool) → List ℕ → Bool
any_word test [] = false
any_word test (w ∷ ws) = either (test w) (any_word test ws)

-- some word of the list is at least the limit
unfoldable pub any_from : Quanta → List ℕ → Bool
any_from limit ws = any_word (λ w. leb limit.0 w) ws

-- some word of the list is below the limit
unfoldable pub any_below : Quanta → List ℕ → Bool
any_below limit ws = any_word (λ w. ltb w limit.0) ws

-- What fails a temperature measurement: some word open, or short (Note 3: "the cycle counts as failed").
unfoldable pub any_fault : Quanta → List ℕ → Bool
any_fault limit ws = either (any_from limit ws) (any_below short_below ws)
