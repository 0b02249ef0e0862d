-- Tables of a probe's resistance, entry i for degree i, and PT1000's.
use Rattle.std.specs.Prelude.{ℕ, zero, suc, ◌+◌, ◌-◌, ◌*◌, ◌/◌, Bool, true, List, [], ◌∷◌, length, ltb, leb}
use Rattle.unit.specs.Choice.{both}

-- "entry t is 1,000,000 + 3,908.3 × t − 0.5775 × t × t milliohms, to the nearest whole, halves up": the sum in
-- ten-thousandths, with a half added, rounded down
unfoldable pub entry : ℕ → ℕ
entry t = (10000000000 + 39083000 * t - 5775 * (t * t) + 5000) / 10000

-- n entries from degree t on
unfoldable pub entries : ℕ → ℕ → List ℕ
entries zero t = []
entries (suc n) t = entry t ∷ entries n (t + 1)

-- "a constant table of PT1000 for each whole degree from 0 to 180"
unfoldable pub pt1000 : List ℕ
pt1000 = entries 181 0

-- each entry is above the one before it
unfoldable pub is_rising : List ℕ → Bool
is_rising [] = true
is_rising (e ∷ []) = true
is_rising (e ∷ f ∷ rest) = both (ltb e f) (is_rising (f ∷ rest))

-- no entry is above the limit
unfoldable pub none_above : ℕ → List ℕ → Bool
none_above limit [] = true
none_above limit (e ∷ rest) = both (leb e limit) (none_above limit rest)

-- "Each call checks it: 2 to 512 entries, strictly rising, none above 10,000,000." (Note 7)
unfoldable pub is_accepted : List ℕ → Bool
is_accepted table =
    both (leb 2 (length table)) (both (leb (length table) 512) (both (is_rising table) (none_above 10000000 table)))
