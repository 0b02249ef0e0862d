-- Sums, differences and means in plain arithmetic, over the lists of what was good.
use Rattle.std.specs.Prelude.{ℕ, ◌+◌, ◌/◌, List, [], ◌∷◌, map, length, ℤ, pos, ◌+ℤ◌}
use Rattle.std.proofs.Math.IntN.{sub_ℕ}
use Rattle.std.specs.Int.Signed.{shr_z}
use Rattle.std.specs.Int.{w32}
use Rattle.std.proofs.Common.{of_z}

-- a statement of each element of a list
abbrev pub All : {A : Type 0} → (A → Type 0) → List A → Type 0
All P [] = Unit {0}
All P (x ∷ xs) = P x × All P xs

unfoldable pub sum : List ℕ → ℕ
sum [] = 0
sum (w ∷ ws) = w + sum ws

-- AVGUP and AVGDN of one good difference measurement: "the up list's sum ÷ H rounded down", and "the same of the down list"
pub record Averages : Type 0 where
  pub up : ℕ
  pub down : ℕ

-- "TOF_DIFF = AVGUP − AVGDN"
unfoldable pub difference : Averages → ℤ
difference a = sub_ℕ a.up a.down

unfoldable pub total : List ℤ → ℤ
total [] = pos 0
total (d ∷ ds) = d +ℤ total ds

-- "the sums of the good differences .. ÷ count, rounded toward minus infinity"; "Acceptance zeroes cycle counts .. and
-- averages": 0 of none
unfoldable pub floor_mean : List ℤ → ℤ
floor_mean [] = pos 0
floor_mean (d ∷ ds) = shr_z (total (d ∷ ds)) (length (d ∷ ds))

-- "A difference is a 32-bit two's complement word"
unfoldable pub difference_bits : ℤ → ℕ
difference_bits z = of_z w32 z

-- "or of the good words of each port, ÷ count, rounded toward minus infinity"; 0 of none
unfoldable pub floor_mean_words : List ℕ → ℕ
floor_mean_words [] = 0
floor_mean_words (w ∷ ws) = sum (w ∷ ws) / length (w ∷ ws)

-- the mean of the differences of good measurements
unfoldable pub mean_averages : List Averages → ℤ
mean_averages good = floor_mean (map difference good)
