-- What is counted, in plain numbers. Assumes nothing.
use Prim.Native.Nat.{ℕ}
use mathlib.Core.Bool.{true}
use mathlib.Core.List.{List, [], ◌∷◌}
use mathlib.Core.Path.{◌≡◌, refl}
use lib.ListN.{replicate}
use Rattle.device.specs.declared.Answer.TheVariants.{Refused, Accepted, Good, Failed}
use Rattle.device.specs.Reply.{number_in}
use Rattle.numeral.specs.Ascii.{ascii}
use Rattle.numeral.specs.Place.{overwrite, next_place, written, put_each}
use Rattle.item_state.specs.Log.{added, said, call_counted, counted, called, refusals}
use Rattle.item_state.specs.Told.{told_value}
use Rattle.refusal.specs.declared.Refusal.{Refusal}
use Rattle.std.specs.Prelude.{Ok, Err}

abbrev zeros : List ℕ
zeros = replicate 22 0

-- A refusal is a call and a refusal, the answers ending at 12; an acceptance is a call. Every other count stays.
a-refusal : counted zeros (refusals (Refused Refusal.SetUp)) 12
    ≡ 12 ∷ 0 ∷ 0 ∷ 1 ∷ 1 ∷ 0 ∷ 0 ∷ 0 ∷ 0 ∷ 0 ∷ 0 ∷ 0 ∷ 0 ∷ 0 ∷ 0 ∷ 0 ∷ 0 ∷ 0 ∷ 0 ∷ 0 ∷ 0 ∷ 0 ∷ []
unfolding counted call_counted added refusals number_in
a-refusal = refl

an-acceptance : counted zeros (refusals (Accepted true true)) 12
    ≡ 12 ∷ 0 ∷ 0 ∷ 1 ∷ 0 ∷ 0 ∷ 0 ∷ 0 ∷ 0 ∷ 0 ∷ 0 ∷ 0 ∷ 0 ∷ 0 ∷ 0 ∷ 0 ∷ 0 ∷ 0 ∷ 0 ∷ 0 ∷ 0 ∷ 0 ∷ []
unfolding counted call_counted added refusals number_in
an-acceptance = refl

-- A failed measurement is no refusal.
a-failure : (refusals Failed ≡ 0) × (refusals Good ≡ 0)
unfolding refusals number_in
a-failure = (refl, refl)

-- The largest count stays.
most : added (18446744073709551615 ∷ []) 0 1 ≡ 18446744073709551615 ∷ []
unfolding added
most = refl

told : (told_value (Ok 7) ≡ 7) × (told_value (Err Refusal.Address) ≡ 0)
unfolding told_value
told = (refl, refl)

-- Two texts behind the two bytes before them, and the first count is where they end; every other count stays.
two-texts : said (ascii "ab" ∷ ascii "c" ∷ []) record { counts = 2 ∷ 6 ∷ 7 ∷ []; answers = ascii "xy......" } ≡ record { counts = 5 ∷ 6 ∷ 7 ∷ []; answers = ascii "xyabc..." }
unfolding said put_each written next_place overwrite ascii
two-texts = refl

-- A call that is refused, answered so.
told-call : called 1 (ascii "ab" ∷ ascii "c" ∷ []) record { counts = 2 ∷ 6 ∷ 7 ∷ 8 ∷ 9 ∷ 1 ∷ []; answers = ascii "xy......" }
    ≡ record { counts = 5 ∷ 6 ∷ 7 ∷ 9 ∷ 10 ∷ 1 ∷ []; answers = ascii "xyabc..." }
unfolding called counted call_counted added put_each written next_place overwrite ascii
told-call = refl
