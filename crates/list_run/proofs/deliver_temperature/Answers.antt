-- `list_run::deliver_temperature` meets its contract.
use Prim.Native.Nat.{◌+◌, ◌-◌}
use native.Mathlib.Omega.{arith}
use mathlib.Core.Path.{◌≡◌}
use Rattle.list_run.proofs.deliver_temperature.Goals as goal

pub sound_temperature_delivery-requires : goal.sound_temperature_delivery-requires
sound_temperature_delivery-requires c = c.requires.0

pub returns : goal.returns
returns c =
    let start = c.args in
    let u : start.p.hits + start.e.first - start.p.hits ≡ start.e.first = omega arith in
    rw u at c.sound_temperature_delivery.ensures
