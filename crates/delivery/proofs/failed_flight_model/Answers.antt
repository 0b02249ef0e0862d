-- `delivery::failed_flight_model` meets its contract.
use borrow.Author.Rules.{rules}
use Rattle.unit.proofs.Tests.{tests}
use native.Mathlib.Omega.{arith}
use Rattle.device.proofs.Sound.{flight-of}
use Rattle.device.specs.Delivery.{failed_flight_model}
use Rattle.delivery.proofs.failed_flight_model.Goals as goal

pub returns : goal.returns
unfolding failed_flight_model
returns c = search (rules, tests)

pub settle-requires : goal.settle-requires
settle-requires c =
    let b = flight-of c.args.m.flight c.requires in
    omega arith
