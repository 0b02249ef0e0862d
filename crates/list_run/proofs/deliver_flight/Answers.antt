-- `list_run::deliver_flight` meets its contract.
use Prim.Native.Nat.{◌+◌, ◌-◌}
use native.Mathlib.Omega.{arith}
use mathlib.Core.Path.{◌≡◌}
use Rattle.list_run.proofs.deliver_flight.Goals as goal

pub sound_flight_delivery-requires : goal.sound_flight_delivery-requires
sound_flight_delivery-requires c = c.requires.0

pub returns : goal.returns
returns c =
    let start = c.args in
    let u : start.p.hits + start.e.first - start.p.hits ≡ start.e.first = omega arith in
    let d : start.p.hits + start.e.first + start.e.second - (start.p.hits + start.e.first) ≡ start.e.second = omega arith in
    rw (u, d) at c.sound_flight_delivery.ensures
