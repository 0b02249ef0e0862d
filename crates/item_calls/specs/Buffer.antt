-- The output buffer of a frame whose line does not give it.
use Rattle.std.specs.Prelude.{List, ℕ, ◌*◌, ◌/◌, ◌-◌, length, get_or, eqb, ltb}
use Rattle.unit.specs.Choice.{pick}

-- "a frame whose first byte is B0h to FFh gets an output buffer of 2 × (further bytes ÷ 2, rounded down) bytes, whatever its answer. A
-- frame whose first byte is 90h gets one of two bytes. Any other frame gets none."
unfoldable pub buffer_size : List ℕ → ℕ
buffer_size bs =
    pick (eqb (length bs) 0) 0 (pick (eqb (get_or bs 0 0) 0x90) 2 (pick (ltb (get_or bs 0 0) 0xB0) 0 ((length bs - 1) / 2 * 2)))
