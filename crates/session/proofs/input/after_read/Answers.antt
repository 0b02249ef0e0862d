-- `session::input::after_read` meets its contract.
-- Assumes nothing.
use Prim.Native.Nat.{ℕ}
use mathlib.Core.Path.{ap, ◌∙◌}
use native.Mathlib.Omega.{arith}
use Rattle.std.specs.Prelude.{Ok}
use Rattle.session.proofs.InputLaws.{told-failed, told-ended, told_more}
use Rattle.session.proofs.input.after_read.Goals as goal

pub returns-in-Err : goal.returns-in-Err
returns-in-Err g c =
    let told = told-failed c.args.got c.args.held c.args.part.now c.in-Err.is in
    (told.0, told.1, omega arith)

pub returns-then-n-eq0 : goal.returns-then-n-eq0
returns-then-n-eq0 g c =
    let told = told-ended c.args.got c.args.held c.args.part.now (c.in-Ok.is ∙ ap (λ (n : ℕ). Ok n) c.if-n-eq0.true) in
    (told.0, c.end_line.ensures.0 ∙ told.1, c.end_line.ensures.1)

pub returns-else-n-eq0 : goal.returns-else-n-eq0
returns-else-n-eq0 g c =
    let told = told_more c.args.got c.args.held c.in-Ok.n c.min.result c.args.part.now c.in-Ok.is c.if-n-eq0.false c.min.ensures in
    (told.0, told.1, omega (arith, c.requires, c.min.ensures))
