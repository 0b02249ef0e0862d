-- The regulator of the user flash, told from the calls and their answers: on from an accepted LDO_ON until LDO_OFF or Reset
-- (Note 8).
use Rattle.std.specs.Prelude.{Bool, true, false, List, ◌≡◌, eqb}
use Rattle.device.specs.Base.{pick}
use Rattle.device.specs.Model.{fresh_model}
use Rattle.device.specs.Call.{Call, transaction, tick, flight, temperature, stretch, opcode, by_sort}
use Rattle.device.specs.History.{after, log}
use Rattle.demands.specs.EventHistory.{last_given}

unfoldable pub supply_given : Call → Bool → Bool
supply_given (transaction f o x) on =
    by_sort f
    (pick (eqb (opcode f) 0x0C) true (pick (eqb (opcode f) 0x0D) false (pick (eqb (opcode f) 0x04) false on)))
    on on on
supply_given tick on = on
supply_given (flight u d) on = on
supply_given (temperature w) on = on
supply_given (stretch n) on = on

-- On a model that grew from a fresh one by any list of calls, refused ones among them, the regulator is as the last accepted 04h, 0Ch
-- or 0Dh says.
abbrev pub SupplyClaim : Type 0
SupplyClaim = (cs : List Call) → (after fresh_model cs).regulator ≡ last_given supply_given (log fresh_model cs) false
