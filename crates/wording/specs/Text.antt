-- Texts put one after the other. Assumes nothing.
use Rattle.std.specs.Prelude.{ℕ, List, [], ◌∷◌, ◌≡◌}
use Rattle.numeral.specs.Place.{put_each}

-- To put texts into l one after the other, from a place on, leaves l' and answers the place r. Where they have room together,
-- they are put as one (`put-each` of numeral's `PlaceLaws`); what has none, and what follows it, is left out, and r is no_room.
pub record PutEach (l : List ℕ) (at : ℕ) (ts : List (List ℕ)) (r : ℕ) (l' : List ℕ) : Type 0 where
  pub next : r ≡ (put_each l at ts).next
  pub bytes : l' ≡ (put_each l at ts).bytes
