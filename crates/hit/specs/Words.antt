-- Delivered lists as arrays, and the result pairs that they fill.
use Rattle.std.specs.Prelude.{ℕ, ◌+◌, ◌/◌, List, [], ◌∷◌, get_or, length, ltb, leb}
use Rattle.unit.specs.Choice.{pick}
use Rattle.unit.specs.declared.Quanta.{Quanta}
use Rattle.hit.specs.Limit.{short_below}

unfoldable pub word_or_zero : List ℕ → ℕ → ℕ
word_or_zero ws i = pick (ltb i (length ws)) (get_or ws i 0) 0

-- "HIT pairs 1 to H hold the words, later HIT pairs 0"
unfoldable pub six_words : List ℕ → List ℕ
six_words ws =
    word_or_zero ws 0 ∷ word_or_zero ws 1 ∷ word_or_zero ws 2 ∷ word_or_zero ws 3 ∷ word_or_zero ws 4 ∷ word_or_zero ws 5 ∷ []

-- "four words, T1 to T4"
unfoldable pub four_words : List ℕ → List ℕ
four_words ws = word_or_zero ws 0 ∷ word_or_zero ws 1 ∷ word_or_zero ws 2 ∷ word_or_zero ws 3 ∷ []

unfoldable pub six_total : List ℕ → ℕ
six_total h = get_or h 0 0 + get_or h 1 0 + get_or h 2 0 + get_or h 3 0 + get_or h 4 0 + get_or h 5 0

-- "AVG the sum ÷ H rounded down"
unfoldable pub average : List ℕ → ℕ → Quanta
average h n = record { 0 = six_total h / n }

-- "HIT 1 to 6, then AVG"
unfoldable pub filled : List ℕ → Quanta → List ℕ
filled h mean =
    get_or h 0 0 ∷ get_or h 1 0 ∷ get_or h 2 0 ∷ get_or h 3 0 ∷ get_or h 4 0 ∷ get_or h 5 0 ∷ mean.0 ∷ []

-- "every HIT and AVG of the measured directions .. become FFFFh": both registers of a pair
unfoldable pub failed_pairs : List ℕ
failed_pairs =
    0xFFFFFFFF ∷ 0xFFFFFFFF ∷ 0xFFFFFFFF ∷ 0xFFFFFFFF ∷ 0xFFFFFFFF ∷ 0xFFFFFFFF ∷ 0xFFFFFFFF ∷ []

-- "An open port reads FFFFh FFFFh, the others their words"; "A word below 32 × 65,536 now reads 0000h 0000h for that port"
-- (Note 3)
unfoldable pub port_pair : Quanta → ℕ → ℕ
port_pair limit w = pick (leb limit.0 w) 0xFFFFFFFF (pick (ltb w short_below.0) 0 w)

unfoldable pub port_pairs : Quanta → List ℕ → List ℕ
port_pairs limit w =
    port_pair limit (get_or w 0 0) ∷
    port_pair limit (get_or w 1 0) ∷
    port_pair limit (get_or w 2 0) ∷
    port_pair limit (get_or w 3 0) ∷
    []

unfoldable pub failed_ports : List ℕ
failed_ports = 0xFFFFFFFF ∷ 0xFFFFFFFF ∷ 0xFFFFFFFF ∷ 0xFFFFFFFF ∷ []

-- no quanta: the sum of no words
abbrev pub no_quanta : Quanta
no_quanta = record { 0 = 0 }

abbrev pub no_sums : List Quanta
no_sums = no_quanta ∷ no_quanta ∷ no_quanta ∷ no_quanta ∷ []

-- a sum with so many quanta more
abbrev pub plus : Quanta → ℕ → Quanta
plus sum w = record { 0 = sum.0 + w }

-- the sums of the four ports, each with its own word more
unfoldable pub plus_each : List Quanta → List ℕ → List Quanta
plus_each sums w =
    plus (get_or sums 0 no_quanta) (get_or w 0 0) ∷
    plus (get_or sums 1 no_quanta) (get_or w 1 0) ∷
    plus (get_or sums 2 no_quanta) (get_or w 2 0) ∷
    plus (get_or sums 3 no_quanta) (get_or w 3 0) ∷
    []
