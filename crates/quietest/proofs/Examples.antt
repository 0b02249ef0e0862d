-- Worked examples, by computation. Assumes nothing.
use mathlib.Core.Path.{◌≡◌, refl}
use mathlib.Core.List.{[], ◌∷◌}
use lib.IntN.{pos, negsuc}
use Rattle.quietest.specs.Quietest.{larger, smaller, extreme, spread, run_spread, quieter, quietest_place}
use Rattle.std.specs.Prelude.{Result, Ok, Err}
use Rattle.refusal.specs.declared.Refusal.{Refusal}
use Rattle.refusal.specs.Number.{number, number_told, values_told, value_told}

-- 5, 9, 8, 7, 1: spreads of three neighbours 4, 2, 7
inner-run : quietest_place (pos 5 ∷ pos 9 ∷ pos 8 ∷ pos 7 ∷ pos 1 ∷ []) 3 ≡ Ok 1
unfolding quietest_place quieter spread extreme larger smaller
inner-run = refl

-- 1, 2, 1, 2: equal spreads
earliest-of-equals : quietest_place (pos 1 ∷ pos 2 ∷ pos 1 ∷ pos 2 ∷ []) 2 ≡ Ok 0
unfolding quietest_place quieter spread extreme larger smaller
earliest-of-equals = refl

-- -2^31, 2^31 - 1, -1, 0: the first spread is 2^32 - 1
full-range : quietest_place (negsuc 2147483647 ∷ pos 2147483647 ∷ negsuc 0 ∷ pos 0 ∷ []) 2 ≡ Ok 2
unfolding quietest_place quieter spread extreme larger smaller
full-range = refl

too_wide : quietest_place (pos 1 ∷ []) 2 ≡ Err Refusal.Width
unfolding quietest_place
too_wide = refl

-- 5, -1 and 3; one value; the least and the largest that there are; none
printed-spreads :
    (run_spread (pos 5 ∷ negsuc 0 ∷ pos 3 ∷ []) ≡ 6) ×
    (run_spread (pos 7 ∷ []) ≡ 0) ×
    (run_spread (pos 2147483647 ∷ negsuc 2147483647 ∷ []) ≡ 4294967295) ×
    (run_spread [] ≡ 0)
unfolding run_spread spread extreme larger smaller
printed-spreads = (refl, refl, refl, refl)
