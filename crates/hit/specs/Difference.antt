-- Differences and means as the registers hold them.
use Rattle.std.specs.Prelude.{ℕ, ◌+◌, ◌-◌, ◌*◌, ◌/◌, ◌%◌, ◌^◌, eqb}
use Rattle.std.proofs.Math.IntN.{sub_ℕ}
use Rattle.std.specs.Int.Signed.{shr_z}
use Rattle.unit.specs.Choice.{pick}
use Rattle.unit.specs.declared.Quanta.{Quanta}
use Rattle.hit.specs.Mean.{difference_bits}

-- "TOF_DIFF = AVGUP − AVGDN"; "A difference is a 32-bit two's complement word"
unfoldable pub difference_word : Quanta → Quanta → ℕ
difference_word up down = (up.0 + 2 ^ 32 - down.0) % 2 ^ 32

-- AVGUP − AVGDN with 2^31 added, which has no sign where both averages are below 2^31. The model keeps the sum of these and not of the
-- differences; less 2^31 for each it is the plain sum (`total-biased` in proofs/Mean.antt).
unfoldable pub biased : Quanta → Quanta → Quanta
biased up down = record { 0 = up.0 + 2 ^ 31 - down.0 }

-- "the averages become the sums of the good differences .. ÷ count, rounded toward minus infinity", as a two's complement word;
-- 0 of none. `sum` has 2^31 added to each of the n differences (`biased`), so theirs is sum − n × 2^31. The remainder changes no
-- mean of differences (`mean-word` in proofs/Mean.antt).
unfoldable pub difference_mean : Quanta → ℕ → ℕ
difference_mean sum n = pick (eqb n 0) 0 (difference_bits (shr_z (sub_ℕ sum.0 (n * 2 ^ 31)) n) % 2 ^ 32)

-- the mean of the good words of a port, from their sum, "÷ count, rounded toward minus infinity"; 0 of none
unfoldable pub port_mean : Quanta → ℕ → ℕ
port_mean sum n = pick (eqb n 0) 0 (sum.0 / n % 2 ^ 32)
