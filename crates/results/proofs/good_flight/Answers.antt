-- `results::good_flight` meets its contract.
use native.Mathlib.Omega.{arith}
use mathlib.Core.Path.{refl}
use Rattle.device.proofs.Sound.{flight-of}
use Rattle.device.specs.Results.{good_flight}
use Rattle.results.proofs.good_flight.Goals as goal

pub settle-requires : goal.settle-requires
settle-requires c =
    let start = c in
    let b = flight-of c.args.f c.requires.2 in
    omega arith

pub returns : goal.returns
unfolding good_flight
returns c =
    rw (
      ← c.average-up.ensures.0,
      ← c.average-down.ensures.0,
      ← c.settle.ensures,
      ← c.good_sum.ensures,
      ← c.filled.ensures,
      ← c.choose_pairs.ensures,
      ← c.filled-2.ensures,
      ← c.choose_pairs-2.ensures,
      ← c.good_difference.ensures,
    )
    refl
