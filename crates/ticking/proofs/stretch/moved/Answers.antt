-- `ticking::stretch::moved` meets its contract.
use borrow.Author.Tests.{lt-ltb, le-ltb}
use Rattle.device.specs.StretchSteps.{moved}
use native.Mathlib.Omega.{arith}
use mathlib.Core.Path.{sym}
use Rattle.ticking.proofs.Quiet.{step_fits}
use Rattle.ticking.proofs.stretch.moved.Goals as goal

pub moved_quietly-requires : goal.moved_quietly-requires
moved_quietly-requires c =
    let e = c.least.ensures in
    let f = c.quiet_for-quiet.ensures in
    let g = rw (sym f) at (step_fits c.args.p.model c.args.most.0) in
    rw e (omega (arith, g))

pub returns-then-quiet-gt0 : goal.returns-then-quiet-gt0
unfolding moved
returns-then-quiet-gt0 c = simp (← c.moved_quietly.ensures, ← c.least.ensures, lt-ltb _ _ c.if-quiet-gt0.true, ← c.quiet_for-quiet.ensures)

pub returns-else-quiet-gt0 : goal.returns-else-quiet-gt0
unfolding moved
returns-else-quiet-gt0 c = simp (← c.moved_by_one.ensures, le-ltb _ _ c.if-quiet-gt0.false, ← c.quiet_for-quiet.ensures)
