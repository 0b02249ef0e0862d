-- `results::good_sum` meets its contract.
use borrow.Author.Tests.{le-ltb, lt-ltb}
use native.Mathlib.Omega.{arith}
use Rattle.device.proofs.Sound.{flight-of}
use Rattle.device.specs.Results.{good_sum}
use Rattle.results.proofs.good_sum.Goals as goal

pub overflow_add-result : goal.overflow_add-result
overflow_add-result c =
    let start = c in
    let b = flight-of c.args.f c.requires.2 in
    omega arith

pub returns-then-f : goal.returns-then-f
unfolding good_sum
returns-then-f c = simp (← c.biased.ensures.0, lt-ltb _ _ c.if-f.true)

pub returns-else-f : goal.returns-else-f
unfolding good_sum
returns-else-f c = simp (le-ltb _ _ c.if-f.false)
