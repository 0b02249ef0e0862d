-- The proofs' own: the sum of differences that the model keeps, over a list of good measurements. `total-biased` in proofs/Mean.antt
-- equates it with the plain sum, `mean-word` its mean with the floor of the signed mean.
use Rattle.std.specs.Prelude.{ℕ, ◌+◌, ◌^◌, ◌<◌, List, [], ◌∷◌}
use Rattle.hit.specs.Mean.{Averages}
use Rattle.hit.specs.Difference.{biased}

-- both averages below 2^31, as means of words that are hits ("2^31 or more means no hit"): no subtraction then stops at 0
abbrev pub InRange : Averages → Type 0
InRange a = (a.up < 2 ^ 31) × (a.down < 2 ^ 31)

-- the sum of the differences of good measurements that the model keeps
unfoldable pub biased_total : List Averages → ℕ
biased_total [] = 0
biased_total (a ∷ rest) = (biased (record { 0 = a.up }) (record { 0 = a.down })).0 + biased_total rest
