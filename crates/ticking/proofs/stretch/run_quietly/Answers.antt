-- `ticking::stretch::run_quietly` meets its contract.
use native.Mathlib.Omega.{arith}
use mathlib.Core.Path.{◌≡◌, ap}
use Rattle.device.specs.declared.Progress.{Progress}
use Rattle.device.specs.StretchSteps.{progress}
use Rattle.device.specs.Stretch.{model_ticked}
use Rattle.ticking.proofs.Quiet.{quiet-run, quiet-fits}
use Rattle.ticking.proofs.stretch.run_quietly.Goals as goal

pub moved_quietly-requires : goal.moved_quietly-requires
unfolding progress model_ticked
moved_quietly-requires c =
    let m = c.args.m in
    let n = c.args.n.0 in
    let e = c.begin.ensures in
    let model : c.begin.result.model ≡ m = ap (λ (p : Progress). p.model) e in
    let done : c.begin.result.done.0 ≡ 0 = ap (λ (p : Progress). p.done.0) e in
    (rw model (quiet-fits m n c.requires.0), omega (arith, done, c.requires.1))

pub returns : goal.returns
returns c = simp (c.moved_quietly.ensures, c.begin.ensures, quiet-run _ _ c.requires.0)
