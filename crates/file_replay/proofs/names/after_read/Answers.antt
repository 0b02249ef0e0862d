-- `file_replay::names::after_read` meets its contract.
-- Assumes nothing.
use Prim.Native.Nat.{ℕ}
use mathlib.Core.Path.{ap, ◌∙◌}
use Rattle.std.specs.Prelude.{Ok}
use Rattle.file_replay.proofs.SourceLaws.{after-failed, after-ended, after_more}
use Rattle.file_replay.proofs.names.after_read.Goals as goal

pub returns-in-Err : goal.returns-in-Err
returns-in-Err g c = after-failed c.args.got _ _ _ _ c.in-Err.is c.broken.ensures

pub returns-then-n-eq0 : goal.returns-then-n-eq0
returns-then-n-eq0 g c = after-ended c.args.got _ (c.in-Ok.is ∙ ap (λ (n : ℕ). Ok n) c.if-n-eq0.true) c.list_ended.ensures

pub returns-else-n-eq0 : goal.returns-else-n-eq0
returns-else-n-eq0 g c =
    let so = c.in_list.ensures in
    after_more c.args.got c.in-Ok.n c.min.result _ _ c.in-Ok.is c.if-n-eq0.false c.min.ensures so.0 so.1 so.2 so.3
