-- `ticking::stretch::run` meets its contract.
use native.Mathlib.Omega.{arith}
use Rattle.ticking.proofs.Quiet.{loop-keeps, loop-starts, loop-ends}
use Rattle.ticking.proofs.stretch.run.Goals as goal

pub run_quietly-requires : goal.run_quietly-requires
run_quietly-requires c = (rw c.quiet_for-quiet.ensures at c.if-n-quiet.true, c.requires)

pub returns-then-n-quiet : goal.returns-then-n-quiet
returns-then-n-quiet c = c.run_quietly.ensures

pub loop-p-init : goal.loop-p-init
loop-p-init c = let (e, z) = loop-starts _ _ c.begin-p.ensures in (e, omega (arith, z))

pub loop-p-smaller : goal.loop-p-smaller
loop-p-smaller c =
    let k = loop-keeps _ _ _ _ _ c.loop-p.invariant.0 c.loop-p-test.true c.less.ensures c.moved-p.ensures in
    omega (arith, k.farther, k.within)

pub loop-p-preserved : goal.loop-p-preserved
loop-p-preserved c =
    let k = loop-keeps _ _ _ _ _ c.loop-p.invariant.0 c.loop-p-test.true c.less.ensures c.moved-p.ensures in
    (k.progressed, k.within)

pub returns : goal.returns
returns c = loop-ends _ _ _ _ c.begin-p.ensures c.loop-p.invariant.0 c.loop-p.invariant.1 c.loop-p-test.false
