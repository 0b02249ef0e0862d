-- `list_run::quiet_ahead` meets its contract.
use native.Mathlib.Omega.{arith}
use Rattle.list_run.proofs.quiet_ahead.Goals as goal

pub overflow_sub-end : goal.overflow_sub-end
overflow_sub-end c = omega (arith, c.requires)

pub fewer-requires : goal.fewer-requires
fewer-requires c = (omega (arith, c.requires), c.requires.0)

pub ticks_ahead-requires : goal.ticks_ahead-requires
ticks_ahead-requires c = let f = c.fewer.ensures in (f.0, omega (arith, c.requires), c.requires.3)

pub returns : goal.returns
returns c =
    let f = c.fewer.ensures in
    let t = c.ticks_ahead.ensures in
    (t.0, omega arith, omega (arith, c.requires), omega (arith, c.requires), t.2)
