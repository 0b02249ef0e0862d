-- `delivery::good_temperature_model` meets its contract.
use borrow.Author.Rules.{rules}
use Rattle.unit.proofs.Tests.{tests}
use native.Mathlib.Omega.{arith}
use Rattle.device.proofs.Sound.{temperature-of}
use Rattle.device.specs.Delivery.{good_temperature_model}
use Rattle.delivery.proofs.good_temperature_model.Goals as goal

pub returns : goal.returns
unfolding good_temperature_model
returns c = search (rules, tests)

pub settle-requires : goal.settle-requires
settle-requires c =
    let b = temperature-of c.args.m.temperature c.requires in
    omega arith
