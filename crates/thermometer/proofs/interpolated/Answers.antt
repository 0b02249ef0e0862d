-- `thermometer::interpolated` meets its contract.
use Prim.Native.Nat.{◌*◌, ◌/◌, ◌<◌}
use native.Mathlib.Omega.{arith}
use Rattle.thermometer.specs.Degrees.{interpolated}
use Rattle.thermometer.proofs.Meaning.{part-below}
use Rattle.thermometer.proofs.interpolated.Goals as goal

pub overflow_add-result : goal.overflow_add-result
overflow_add-result c =
    let small : 1000 * c.from.result / c.from-2.result < 1000 =
    rw (c.from.ensures, c.from-2.ensures) (part-below c.args.e c.args.f c.args.r c.requires.1 c.requires.2)
    in
    omega arith

pub overflow_cast-result : goal.overflow_cast-result
overflow_cast-result c =
    let small : 1000 * c.from.result / c.from-2.result < 1000 =
    rw (c.from.ensures, c.from-2.ensures) (part-below c.args.e c.args.f c.args.r c.requires.1 c.requires.2)
    in
    omega arith

pub returns : goal.returns
unfolding interpolated
returns c = rw (c.from.ensures, c.from-2.ensures)
