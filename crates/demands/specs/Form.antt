-- The clock's form, told from the calls and their answers: "A clock keeps the form it was last written in." (Note 2)
use Rattle.std.specs.Prelude.{◌-◌, Bool, false, List, ◌≡◌, drop, eqb}
use Rattle.device.specs.Base.{pick, twelve_in, word_at}
use Rattle.device.specs.Model.{fresh_model}
use Rattle.device.specs.Write.{covers}
use Rattle.device.specs.Call.{Call, transaction, tick, flight, temperature, stretch, opcode, words, by_sort}
use Rattle.device.specs.History.{after, log}
use Rattle.demands.specs.EventHistory.{last_given}

-- 12-hour form or not, after an accepted call, by what it was: Reset gives a fresh clock, which has 24-hour form; a write of
-- 31h gives the form of its word
unfoldable pub form_given : Call → Bool → Bool
form_given (transaction f o x) form =
    by_sort f (pick (eqb (opcode f) 4) false form)
    (pick (covers (opcode f) (words f) 0x31) (twelve_in (word_at (drop 1 f) (0x31 - opcode f))) form)
    form form
form_given tick form = form
form_given (flight u d) form = form
form_given (temperature w) form = form
form_given (stretch n) form = form

-- On a model that grew from a fresh one by any list of calls, refused ones among them, the clock has the form last written.
abbrev pub FormClaim : Type 0
FormClaim = (cs : List Call) → (after fresh_model cs).clock.twelve ≡ last_given form_given (log fresh_model cs) false
