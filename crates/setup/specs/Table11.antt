-- The printed STOP and TIMOUT tables of data sheet 000, Table 11 (39h).
use Rattle.std.specs.Prelude.{ℕ, List, [], ◌∷◌, get_or}

-- STOP[2:0], 000b first: "1 Hit", "2 Hits" .. "6 Hits", "6 Hits", "6 Hits"
unfoldable pub stop_table : List ℕ
stop_table = 1 ∷ 2 ∷ 3 ∷ 4 ∷ 5 ∷ 6 ∷ 6 ∷ 6 ∷ []

-- TIMOUT[2:0], 000b first: "DESCRIPTION (µs)"
unfoldable pub timeout_table : List ℕ
timeout_table = 128 ∷ 256 ∷ 512 ∷ 1024 ∷ 2048 ∷ 4096 ∷ 8192 ∷ 16384 ∷ []

-- The hits of a value of STOP, and the microseconds of one of TIMOUT, by its row. Three bits hold none past the last row; any other
-- number is given that row.
unfoldable pub stop_row : ℕ → ℕ
stop_row stop = get_or stop_table stop 6

unfoldable pub timeout_row : ℕ → ℕ
timeout_row k = get_or timeout_table k 16384
