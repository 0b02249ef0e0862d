-- What a list of numbers gives a line. Assumes nothing.
use Rattle.std.specs.Prelude.{ℕ, zero, suc, List, [], ◌∷◌, ◌++◌, ◌≡◌, take, drop}
use Rattle.item_line.specs.Line.{Fault, Expected, Line}
use Rattle.item_line.specs.Reading.{Got, got, wrong, flight_parts}
use Rattle.item_line_code.specs.OwnNumbers.{Tallied, all, bad}

-- Numbers before those that were got.
abbrev pub prefix : List ℕ → Got (List ℕ) → Got (List ℕ)
prefix ns (got ms) = got (ns ++ ms)
prefix ns (wrong w) = wrong w

-- The numbers of a list that no slash parts.
abbrev pub got_of : Tallied → List ℕ → Got (List ℕ)
got_of (all n k u) l = got (take n l)
got_of (bad w) l = wrong w

-- How many there are.
abbrev pub Counts : ℕ → Tallied → Type 0
Counts m (all n k u) = n ≡ m
Counts m (bad w) = Unit

-- The line of two lists that a slash parts.
abbrev pub flight_of : Expected → Tallied → List ℕ → Line
flight_of x (bad w) l = Line.bad (Fault.bad_number w)
flight_of x (all n zero u) l = Line.bad Fault.wrong_count
flight_of x (all n (suc zero) u) l = flight_parts x (take u l ∷ drop u (take n l) ∷ [])
flight_of x (all n (suc (suc k)) u) l = Line.bad Fault.wrong_count

-- Numbers before those of the first of some lists.
abbrev pub on_first : List ℕ → List (List ℕ) → List (List ℕ)
on_first ns [] = []
on_first ns (ms ∷ others) = (ns ++ ms) ∷ others
