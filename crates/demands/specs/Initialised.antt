-- Whether a model is initialised, told from the calls and their answers: "05h Initialize makes the model initialised, until a Reset"
use Rattle.std.specs.Prelude.{Bool, true, false, List, ◌≡◌, eqb}
use Rattle.device.specs.Base.{pick}
use Rattle.device.specs.Model.{fresh_model}
use Rattle.device.specs.Call.{Call, transaction, tick, flight, temperature, stretch, opcode}
use Rattle.device.specs.History.{after, log}
use Rattle.demands.specs.EventHistory.{last_given}

-- whether a model is initialised after an accepted call, by its first byte: 04h Reset, 05h Initialize, or any other, which
-- changes nothing
unfoldable pub initialised_by : Call → Bool → Bool
initialised_by (transaction f o x) initialised = pick (eqb (opcode f) 0x04) false (pick (eqb (opcode f) 0x05) true initialised)
initialised_by tick initialised = initialised
initialised_by (flight u d) initialised = initialised
initialised_by (temperature w) initialised = initialised
initialised_by (stretch n) initialised = initialised

-- On a model that grew from a fresh one by any list of calls, refused ones among them, "initialised" is what the last accepted 04h or
-- 05h says; a fresh one is not initialised.
abbrev pub InitialisedClaim : Type 0
InitialisedClaim = (cs : List Call) → (after fresh_model cs).initialised ≡ last_given initialised_by (log fresh_model cs) false
