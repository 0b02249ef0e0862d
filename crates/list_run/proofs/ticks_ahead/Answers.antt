-- `list_run::ticks_ahead` meets its contract.
use native.Mathlib.Omega.{arith}
use mathlib.Core.Path.{◌≡◌}
use Rattle.list_run.proofs.Laws.{first-tick, next-tick}
use Rattle.list_run.proofs.ticks_ahead.Goals as goal

pub loop-n-init : goal.loop-n-init
loop-n-init c = first-tick _ _ c.requires.2

pub loop-n-preserved : goal.loop-n-preserved
loop-n-preserved c = next-tick _ _ _ c.loop-n.invariant c.if-calls-k-ne-TICK.false

pub returns : goal.returns
returns c =
    let i = c.loop-n.invariant in
    let e : c.loop-n.n ≡ c.args.most = omega arith in
    (c.requires.0, omega arith, rw e at i)
