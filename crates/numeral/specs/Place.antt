-- Bytes that are put into a buffer at a place. Assumes nothing.
use Rattle.std.specs.Prelude.{ℕ, ◌+◌, ◌≡◌, cond, List, [], ◌∷◌, ◌++◌, leb, length, take, drop}

-- The next place where there was no room: it lies past every buffer's end, so what is put there finds no room either.
abbrev pub no_room : ℕ
no_room = 18446744073709551615

-- The list with vs in the places from at on, and each other place as it was.
unfoldable pub overwrite : List ℕ → ℕ → List ℕ → List ℕ
overwrite l at vs = take at l ++ vs ++ drop (at + length vs) l

-- The place after vs, or no_room where they do not fit.
unfoldable pub next_place : List ℕ → ℕ → List ℕ → ℕ
next_place l at vs = cond (leb (at + length vs) (length l)) (at + length vs) no_room

-- The list with vs put at a place, or unchanged where they do not fit.
unfoldable pub written : List ℕ → ℕ → List ℕ → List ℕ
written l at vs = cond (leb (at + length vs) (length l)) (overwrite l at vs) l

-- To put vs into l at a place leaves l' and answers the place r.
pub record Put (l : List ℕ) (at : ℕ) (vs : List ℕ) (r : ℕ) (l' : List ℕ) : Type 0 where
  pub next : r ≡ next_place l at vs
  pub bytes : l' ≡ written l at vs

-- Where texts that are put one after the other end, and what they leave.
pub record Placed : Type 0 where
  pub next : ℕ
  pub bytes : List ℕ

unfoldable pub put_each : List ℕ → ℕ → List (List ℕ) → Placed
put_each l at [] = record { next = at; bytes = l }
put_each l at (t ∷ ts) = put_each (written l at t) (next_place l at t) ts

-- The texts as one.
unfoldable pub joined : List (List ℕ) → List ℕ
joined [] = []
joined (t ∷ ts) = t ++ joined ts
