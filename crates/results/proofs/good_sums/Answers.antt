-- `results::good_sums` meets its contract.
use borrow.Author.Tests.{le-ltb, lt-ltb}
use native.Mathlib.Omega.{arith}
use Rattle.device.proofs.Sound.{temperature-of}
use Rattle.device.specs.Results.{good_sums}
use Rattle.results.proofs.good_sums.Goals as goal

pub plus_each-requires : goal.plus_each-requires
plus_each-requires c =
    let start = c in
    let b = temperature-of c.args.t c.requires in
    omega arith

pub returns-then-t : goal.returns-then-t
unfolding good_sums
returns-then-t c = simp (← c.plus_each.ensures, lt-ltb _ _ c.if-t.true)

pub returns-else-t : goal.returns-else-t
unfolding good_sums
returns-else-t c = simp (le-ltb _ _ c.if-t.false)
