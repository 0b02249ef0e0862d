-- From words to degrees, over any table.
use Rattle.std.specs.Prelude.{ℕ, ◌+◌, ◌-◌, ◌*◌, ◌/◌, ◌≤◌, ◌<◌, Bool, List, [], ◌∷◌, length, get_or, ltb, eqb, Result, Ok, Err}
use Rattle.unit.specs.Choice.{pick, either}
use Rattle.thermometer.specs.Table.{pt1000, is_accepted}
use Rattle.refusal.specs.declared.Refusal.{Refusal}

-- "From a probe word a and its reference word b, reference 1,000 Ω, resistance is a × 1,000,000 ÷ b milliohms, rounded
-- down."
unfoldable pub resistance : ℕ → ℕ → ℕ
resistance a b = a * 1000000 / b

-- "Between entries e and f of degree i, with e ≤ R < f, the answer is 1,000 × i + 1,000 × (R − e) ÷ (f − e) thousandths
-- of a degree, rounded down"
unfoldable pub interpolated : ℕ → ℕ → ℕ → ℕ → ℕ
interpolated i e f r = 1000 * i + 1000 * (r - e) / (f - e)

-- the degree i of R: "e ≤ R < f"
abbrev pub Between : List ℕ → ℕ → ℕ → Type 0
Between table i r = (i + 1 < length table) × (get_or table i 0 ≤ r) × (r < get_or table (i + 1) 0)

-- over the entries from degree i on, of which the first is at most R; "the last entry itself answers 180,000": 1,000 for each
-- degree
unfoldable pub thousandths_from : ℕ → List ℕ → ℕ → ℕ
thousandths_from i [] r = 1000 * i
thousandths_from i (e ∷ []) r = 1000 * i
thousandths_from i (e ∷ f ∷ rest) r = pick (ltb r f) (interpolated i e f r) (thousandths_from (i + 1) (f ∷ rest) r)

unfoldable pub thousandths : List ℕ → ℕ → ℕ
thousandths table r = thousandths_from 0 table r

abbrev pub first : List ℕ → ℕ
first table = get_or table 0 0

abbrev pub last : List ℕ → ℕ
last table = get_or table (length table - 1) 0

-- 13 "off the table, when either word is FFFFFFFFh, b is 0, or the resistance is below the first or above the last entry"
unfoldable pub off_table : List ℕ → ℕ → ℕ → Bool
off_table table a b =
    either (eqb a 0xFFFFFFFF)
    (either (eqb b 0xFFFFFFFF)
    (either (eqb b 0) (either (ltb (resistance a b) (first table)) (ltb (last table) (resistance a b)))))

-- the answer over a table: "Turned away: number 13"
unfoldable pub degrees_over : List ℕ → ℕ → ℕ → Result ℕ Refusal
degrees_over table a b = pick (off_table table a b) (Err Refusal.OffTable) (Ok (thousandths table (resistance a b)))

-- over "a constant table of PT1000"
abbrev pub degrees : ℕ → ℕ → Result ℕ Refusal
degrees a b = degrees_over pt1000 a b

-- the answer over the caller's own table: "Turned away: number 14, bad table, before number 13, for any table failing these."
-- (Note 7)
unfoldable pub degrees_by : List ℕ → ℕ → ℕ → Result ℕ Refusal
degrees_by table a b = pick (is_accepted table) (degrees_over table a b) (Err Refusal.BadTable)
