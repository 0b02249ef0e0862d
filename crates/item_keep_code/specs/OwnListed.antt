-- A listing into a buffer from a place on. Assumes nothing.
use Rattle.std.specs.Prelude.{ℕ, List, ◌++◌, leb, ℤ, length, take, drop}
use Rattle.unit.specs.Choice.{pick}
use Rattle.listing.specs.Listing.{Outcome, listing, refused}
use Rattle.refusal.specs.declared.Refusal.{Refusal}
use Rattle.std.specs.Prelude.{Result, Ok, Err}

-- As into the places from `at` on; number 21 where the buffer has no such place.
unfoldable pub listed_at : ℕ → List ℤ → ℕ → List ℕ → ℕ → Outcome
listed_at d values first l at =
    pick (leb at (length l))
    (let o = listing d values first (drop at l) in record { answer = o.answer; bytes = take at l ++ o.bytes })
    (refused Refusal.ShortListing l)

-- How many bytes were written.
unfoldable pub written_in : Result ℕ Refusal → ℕ
written_in (Ok n) = n
written_in (Err r) = 0
