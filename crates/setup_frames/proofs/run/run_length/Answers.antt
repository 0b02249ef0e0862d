-- `setup_frames::run::run_length` meets its contract.
use Prim.Native.Nat.{◌-◌}
use native.Mathlib.Omega.{arith}
use mathlib.Core.Path.{◌≡◌, sym, ◌∙◌}
use Rattle.setup_frames.proofs.Loops.{run_on, run-stops, run_ends}
use Rattle.setup_frames.proofs.run.run_length.Goals as goal

pub returns-then-not-differs : goal.returns-then-not-differs
returns-then-not-differs c =
    let head = c.loop-n in
    (run-stops c.args.s c.args.i head.n head.invariant (omega arith) (sym c.differs.ensures ∙ c.if-not-differs.true), omega arith)

pub loop-n-preserved : goal.loop-n-preserved
loop-n-preserved c =
    let head = c.loop-n in run_on c.args.s c.args.i head.n head.invariant (omega arith) (sym c.differs.ensures ∙ c.if-not-differs.false)

pub returns : goal.returns
returns c =
    let head = c.loop-n in
    let all : 16 - c.args.i ≡ head.n = omega arith in
    (all ∙ run_ends c.args.s c.args.i head.n head.invariant (omega arith), omega arith)
