-- The quietest run of neighbours in a list of differences.
use Rattle.std.specs.Prelude.{ℕ, zero, suc, ◌+◌, ◌-◌, ◌*◌, ◌≡◌, List, [], ◌∷◌, ℤ, pos, nat_abs, ◌-ℤ◌, length, get_or, take, drop, ltb, eqb, Result, Ok, Err}
use Rattle.std.specs.Int.Signed.{lt_z}
use Rattle.std.specs.Borrow.{Bor}
use Rattle.unit.specs.Choice.{pick, either}
use Rattle.refusal.specs.declared.Refusal.{Refusal}
use Rattle.refusal.specs.Number.{number_told}

abbrev pub value_at : List ℤ → ℕ → ℤ
value_at values k = get_or values k (pos 0)

unfoldable pub larger : ℤ → ℤ → ℤ
larger a b = pick (lt_z a b) b a

unfoldable pub smaller : ℤ → ℤ → ℤ
smaller a b = pick (lt_z b a) b a

-- the extreme of n neighbours from a place on (where n is 0, the value there), `further` choosing between two values
unfoldable pub extreme : (ℤ → ℤ → ℤ) → List ℤ → ℕ → ℕ → ℤ
extreme further values from zero = value_at values from
extreme further values from (suc n) = further (extreme further values from n) (value_at values (from + n))

abbrev pub largest : List ℤ → ℕ → ℕ → ℤ
largest = extreme larger

abbrev pub smallest : List ℤ → ℕ → ℕ → ℤ
smallest = extreme smaller

-- "largest less smallest" of the run of w neighbours that starts at a place
unfoldable pub spread : List ℤ → ℕ → ℕ → ℤ
spread values start w = largest values start w -ℤ smallest values start w

-- the same of a whole run, as it is printed: a number without a sign, 0 of none
unfoldable pub run_spread : List ℤ → ℕ
run_spread run = nat_abs (spread run 0 (length run))

-- of the start s and the n starts from a place on, the first of the least spread: a later one only where its spread is less
unfoldable pub quieter : List ℤ → ℕ → ℕ → ℕ → ℕ → ℕ
quieter values w s from zero = s
quieter values w s from (suc n) =
    let best = quieter values w s from n in
    pick (lt_z (spread values (from + n) w) (spread values best w)) (from + n) best

-- "Turned away: number 18, width, for w of 0 or above the record's length"; else "the run of w neighbours whose largest less
-- smallest is least, the earliest among equals", by its start: one of 0 to the length less w
unfoldable pub quietest_place : List ℤ → ℕ → Result ℕ Refusal
quietest_place values w =
    pick (either (eqb w 0) (ltb (length values) w))
    (Err Refusal.Width)
    (Ok (quieter values w 0 1 (length values - w)))

-- the number beside a part that is handed back: 0 where the answer says none
abbrev pub number_given : Result ℕ Refusal → ℕ
number_given place = get_or (number_told place) 0 0

-- r is the part of the slice s itself that holds n values from its place `start` on: it lies in the same memory, four bytes a
-- value further on
pub record PartOf (s r : Bor (List ℤ)) (start n : ℕ) : Type 0 where
  pub block : r.ref_ptr.0 ≡ s.ref_ptr.0
  pub offset : r.ref_ptr.1 ≡ s.ref_ptr.1 + start * 4
  pub elements : r.now ≡ take n (drop start s.now)

-- "It must be that part of the caller's record itself"; a refusal comes "with the empty part from the record's start"
abbrev pub Handed : Result ℕ Refusal → ℕ → Bor (List ℤ) → Bor (List ℤ) → Type 0
Handed (Ok start) w s r = PartOf s r start w
Handed (Err refusal) w s r = PartOf s r 0 0
