-- `finding::copy_run` meets its contract.
use Prim.Native.Nat.{◌+◌}
use lib.ListN.{get_or, take, drop}
use lib.IntN.{pos}
use mir.Syntax.{w32}
use mir.Val.{SFits}
use mir.ValLaws.{to_z-of_z}
use borrow.Author.Rules.{rules}
use Rattle.finding.proofs.Run.{run_more, run-full}
use Rattle.finding.proofs.copy_run.Goals as goal

pub returns-then-run-i : goal.returns-then-run-i
returns-then-run-i c =
    let args = c.args in
    let at-loop = c.loop-i in
    run-full args.run.now at-loop.run (take args.width (drop args.start args.values.now)) at-loop.i c.if-run-i.true at-loop.invariant

pub loop-i-preserved : goal.loop-i-preserved
loop-i-preserved c =
    let args = c.args in
    let at-loop = c.loop-i in
    let x = get_or args.values.now (args.start + at-loop.i) (pos 0) in
    let f : SFits w32 x = search rules in
    rw (to_z-of_z w32 x f)
    (run_more args.values.now args.run.now at-loop.run args.start args.width at-loop.i (pos 0) c.requires c.loop-i-test.true at-loop.invariant)
